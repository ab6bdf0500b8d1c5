use mathlib.Core.Path.{sym, ◌∙◌}
use native.Mathlib.Omega.{arith}
use Rattle.problem_scan.specs.Sound.{SoundClause}
use Rattle.elimination.specs.Loading.{clauses-start, clauses-done, clause-sound, clause-splits, clause-next, clause-ended}
use Rattle.elimination.proofs.load.load_written.Goals as goal
use Rattle.elimination.proofs.load.load_written.Goals.{In-loop-clause}

pub loop-clause-init : goal.loop-clause-init
loop-clause-init c = clauses-start c.requires.readable c.requires.steps_in_bounds

-- the clause at hand
sound : (c : In-loop-clause) → SoundClause c.args.input.now c.args.sizes.rationals c.loop-clause.at
sound c = clause-sound c.loop-clause.invariant c.loop-clause-test.true

pub load_clause-loaded-requires : goal.load_clause-loaded-requires
load_clause-loaded-requires c =
    let l = c.loop-clause in
    let few = clause-splits l.invariant c.loop-clause-test.true in
    record {
      r_le_rationals = c.requires.readable.parsed.rationals;
      sound_clause = sound (goal.at.load_clause-loaded-requires c).In-loop-clause;
      at_bound =
          omega (arith, l.invariant.low, few, c.requires.readable.parsed.booleans);
      at_bound_2 = omega (arith, few);
      clause_lt_most_steps =
          omega (arith, c.loop-clause-test.true, c.requires.readable.parsed.clauses);
      standing = l.invariant.leads.standing;
      progress_value =
          l.invariant.going;
    }

pub returns-then-not-is_running : goal.returns-then-not-is_running
returns-then-not-is_running c =
    clause-ended c.loop-clause.invariant c.loop-clause-test.true c.load_clause-loaded.ensures.loads_clause
    (sym c.is_running.ensures ∙ c.if-not-is_running.true)

pub next-at-requires : goal.next-at-requires
next-at-requires c = (sound (goal.at.next-at-requires c).In-loop-clause).within

pub loop-clause-preserved : goal.loop-clause-preserved
loop-clause-preserved c =
    let going = sym c.is_running.ensures ∙ c.if-not-is_running.false in
    rw (c.load_clause-loaded.ensures.split_value going, c.next-at.ensures)
    (clause-next c.loop-clause.invariant c.loop-clause-test.true c.load_clause-loaded.ensures.loads_clause going)

pub returns : goal.returns
returns c = clauses-done c.loop-clause.invariant c.loop-clause-test.false
