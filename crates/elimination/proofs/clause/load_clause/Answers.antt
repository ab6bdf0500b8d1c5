-- `clause::load_clause` meets its contract: the first reading's parts, and behind them the second's where there is one.
use mathlib.Core.Path.{◌≡◌, sym, ap, ◌∙◌}
use mathlib.Core.Bool.{true, false}
use mathlib.Core.List.{List}
use Prim.Native.Nat.{ℕ, ◌+◌}
use native.Mathlib.Omega.{arith}
use lib.ListN.{length}
use Rattle.rules.specs.Problem.{Clause}
use Rattle.rules.specs.Readings.{reading, has_equality}
use Rattle.rules.specs.Lines as rules
use Rattle.rules.specs.Split.{reading_parts, reading_splits, splits_of}
use Rattle.theory_lists.specs.Tests.{of-true}
use Rattle.theory_splitting.specs.Twice.{splits-once, splits-twice}
use Rattle.problem_scan.specs.Values.{clause_at}
use Rattle.problem_parts.specs.Part.{begun-count}
use Rattle.problem_parts.specs.Parts.{parts_from}
use Rattle.placing.specs.Point.{running-yes}
use Rattle.elimination.specs.LoadedParts.{first-few, both-few, clause-once, clause-stays, clause-twice}
use Rattle.elimination.proofs.clause.load_clause.Goals as goal
use Rattle.elimination.proofs.clause.load_clause.Goals.{then-not-is_running-via-then-not-is_running}
use Rattle.elimination.proofs.clause.load_clause.Goals.{then-not-is_running-via-else-not-is_running+then-not-read_twice}
use Rattle.elimination.proofs.clause.load_clause.Goals.{After-begin-first, After-count, After-load_parts-p, After-splits-2}
use Rattle.elimination.proofs.clause.load_clause.Goals.{Else-not-read_twice, Start}

-- the clause
abbrev here : Start → Clause
here s = clause_at s.args.input.now s.args.r s.args.at

-- its first reading
module _ (c : After-begin-first) where
  abbrev first : List rules.Line
  first = reading_parts c.args.split (reading false (here (goal.at.After-begin-first c).Start))

pub load_parts-p-requires : goal.load_parts-p-requires
load_parts-p-requires c =
    let few = first-few c.args.input.now c.args.r c.args.at c.args.split c.args.clause in
    record {
      r_le_rationals = c.requires.r_le_rationals;
      sound_parts = c.begin-first.ensures.sound;
      first_bound = omega (arith, ap length c.begin-first.ensures.parts, few, c.requires.at_bound_2);
      clause_lt_most_steps = c.requires.clause_lt_most_steps;
      standing = c.requires.standing;
      progress_value = c.requires.progress_value;
    }

-- behind the first reading's parts
module _ (c : After-load_parts-p) where
  -- the split variable behind them
  behind : c.splits.result ≡ reading_splits (reading false (here (goal.at.After-load_parts-p c).Start))
  behind = c.splits.ensures ∙ c.begin-first.ensures.splits

pub returns-then-not-is_running : goal.returns-then-not-is_running
returns-then-not-is_running c =
    let a = c.args in
    let loads = rw c.begin-first.ensures.parts at c.load_parts-p.ensures in
    elim c.then-not-is_running.branch [
      | then-not-is_running-via-then-not-is_running w ↦
          let ended = sym c.is_running.ensures ∙ w.if-not-is_running.true in
          record {
            loads_clause = clause-stays a.input.now a.r a.at a.split a.clause loads ended;
            split_value = λ e. absurd (of-true false (sym ended ∙ e));
          }
      | then-not-is_running-via-else-not-is_running+then-not-read_twice w ↦
          let p = goal.at.returns-then-not-is_running c in
          let o = sym w.read_twice.ensures ∙ w.if-not-read_twice.true in
          record {
            loads_clause = clause-once a.input.now a.r a.at a.split a.clause loads o;
            split_value = λ e. omega (arith, behind p.After-load_parts-p, splits-once (here p.Start) o);
          }
    ]

-- the clause has two
twice : (c : Else-not-read_twice) → has_equality (here (goal.at.Else-not-read_twice c).Start).comparisons ≡ true
twice c = sym c.read_twice.ensures ∙ c.if-not-read_twice.false

pub begin-second-requires : goal.begin-second-requires
begin-second-requires c = record {
  sound_clause = c.requires.sound_clause;
  split_le_all_booleans = omega (
    arith,
    c.requires.at_bound,
    behind (goal.at.begin-second-requires c).After-load_parts-p,
    splits-twice (here (goal.at.begin-second-requires c).Start) (twice c),
  );
}

-- the second reading's parts, and the number of the first of them
module _ (c : After-count) where
  abbrev second : List rules.Line
  second = reading_parts (c.args.split + reading_splits (reading false (here (goal.at.After-count c).Start)))
      (reading true (here (goal.at.After-count c).Start))

  second_is : parts_from c.args.input.now c.args.r c.begin-second.result ≡ second
  second_is =
      c.begin-second.ensures.parts
      ∙ ap (λ (n : ℕ). reading_parts (c.args.split + n) (reading true (here (goal.at.After-count c).Start)))
      (behind (goal.at.After-count c).After-load_parts-p)

  number : c.count.result ≡ length (first (goal.at.After-count c).After-begin-first)
  number =
      let b = c.begin-first in
      let a = c.args in
      c.count.ensures ∙ begun-count a.input.now a.r a.at a.split false b.result b.ensures

pub load_parts-requires : goal.load_parts-requires
load_parts-requires c =
    let a = c.args in
    let few = both-few a.input.now a.r a.at a.split a.clause (twice (goal.at.load_parts-requires c).Else-not-read_twice) in
    record {
      r_le_rationals = c.requires.r_le_rationals;
      sound_parts = c.begin-second.ensures.sound;
      first_bound = omega (
        arith,
        number (goal.at.load_parts-requires c).After-count,
        ap length (second_is (goal.at.load_parts-requires c).After-count),
        few,
        c.requires.at_bound_2,
      );
      clause_lt_most_steps =
          c.requires.clause_lt_most_steps;
      standing = c.load_parts-p.ensures.leads.standing;
      progress_value =
          running-yes c.load_parts-p.result.progress (sym c.is_running.ensures ∙ c.if-not-is_running.false);
    }

-- the split variables of both
both : (c : After-splits-2) → c.splits.result + c.splits-2.result ≡ splits_of (here (goal.at.After-splits-2 c).Start)
both c =
    let s = splits-twice (here (goal.at.After-splits-2 c).Start) (twice (goal.at.After-splits-2 c).Else-not-read_twice) in
    omega (arith, behind (goal.at.After-splits-2 c).After-load_parts-p, c.splits-2.ensures, c.begin-second.ensures.splits, s)

pub overflow_add-result : goal.overflow_add-result
overflow_add-result c = omega (arith, both c, c.requires.at_bound)

pub returns : goal.returns
returns c =
    let a = c.args in record {
      loads_clause = clause-twice a.input.now a.r a.at a.split a.clause (rw c.begin-first.ensures.parts at c.load_parts-p.ensures)
          (twice (goal.at.returns c).Else-not-read_twice) c.count.result _ (number (goal.at.returns c).After-count)
          (second_is (goal.at.returns c).After-count) c.load_parts.ensures;
      split_value = λ e. omega (arith, both c);
    }
