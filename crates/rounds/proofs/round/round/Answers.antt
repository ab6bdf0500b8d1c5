use mathlib.Core.Path.{refl, sym, ◌∙◌}
use Prim.Native.Nat.{◌+◌, ◌*◌, ◌<◌}
use native.Mathlib.Omega.{arith}
use Rattle.rules_types.specs.Limits as limit
use Rattle.steps.specs.Held.{held-fewer}
use Rattle.rounds.specs.Left.{line_same}
use Rattle.rounds.specs.Round.{AtLower, Entered, upper_first, upper-done, lower-first, upper-next, pairable, Underway}
use Rattle.rounds.specs.Round.{later_lowers, underway-pair, lower-next, round-ended}
use Rattle.rounds.proofs.round.round.Goals as goal
use Rattle.rounds.proofs.round.round.Goals.{After-pair-p, At-loop-j}

pub next-first-requires : goal.next-first-requires
next-first-requires c =
    record { held = c.requires.standing.held; from_le_m = omega arith; scheduled = c.requires.scheduled }

pub next-i-requires : goal.next-i-requires
next-i-requires c =
    record { held = c.requires.standing.held; from_le_m = omega arith; scheduled = c.requires.scheduled }

pub pairs-init : goal.pairs-init
pairs-init c =
    upper_first c.args.limits c.args.current c.args.proof.now c.args.from c.requires.standing c.requires.progress_value
    c.next-i.ensures

pub loop-j-init : goal.loop-j-init
loop-j-init c =
    λ start from w.
    let a = c.args in
    let h = w.steps in
    lower-first a.limits a.current start from w.standing w.at (omega arith) w.first-lower

-- before the loop over the lowers
entered : (c : At-loop-j) →
    let a = c.args in
    Entered a.limits a.current a.from.steps c.next-first.result a.proof.now a.from c.pairs.proof
    c.pairs.p c.pairs.i
entered c =
    record { steps = refl; standing = c.requires.standing; first-lower = c.next-first.ensures; at = c.pairs.invariant }

-- at its test
lower : (c : At-loop-j) →
    let a = c.args in
    AtLower a.limits a.current a.proof.now a.from c.loop-j.proof c.loop-j.p c.pairs.i c.loop-j.j
lower c = let a = c.args in
    c.loop-j.invariant a.proof.now a.from (entered c)

pub pair-p-requires : goal.pair-p-requires
pair-p-requires c =
    let a = c.args in
    let r = lower (goal.at.pair-p-requires c).At-loop-j in
    let room = c.requires.standing.held.room in
    let i = c.pairs.i in
    record {
      standing = r.underway.leads.standing;
      pairable = pairable a.limits a.current a.proof.now a.from c.requires.standing r (omega arith)
          (c.pairs.invariant.upper (omega arith)) (omega arith) c.requires.scheduled.ranged c.requires.steps_le_most_steps
          c.requires.pairs_bound;
      upper_value = c.line_at-upper.ensures ∙ line_same c.pairs.invariant.underway.leads room i (omega arith)
          ∙ sym (line_same r.underway.leads room i (omega arith));
    }

-- the pair tried
tried : (c : After-pair-p) →
    let a = c.args in
    Underway a.limits a.current a.proof.now a.from c.pair-p.new.proof c.pair-p.result (later_lowers a.limits a.current
    a.proof.now a.from c.pairs.i (c.loop-j.j + 1)) (limit.most_steps * c.pairs.i + (c.loop-j.j + 1))
tried c =
    let a = c.args in
    underway-pair a.limits a.current a.proof.now a.from c.requires.standing (lower (goal.at.After-pair-p c).At-loop-j) (omega arith)
    (c.pairs.invariant.upper (omega arith)) (omega arith) c.pair-p.ensures

pub overflow_add-j : goal.overflow_add-j
overflow_add-j c = omega (arith, c.loop-j-test.true, c.requires.standing.few, c.requires.steps_le_most_steps)

pub next-j-requires : goal.next-j-requires
next-j-requires c =
    let h = c.loop-j-test in
    let r = (tried (goal.at.next-j-requires c).After-pair-p).leads in
    record { held = held-fewer r.standing.held r.grows; from_le_m = omega arith; scheduled = c.requires.scheduled }

pub loop-j-preserved : goal.loop-j-preserved
loop-j-preserved c =
    λ start from w.
    let a = c.args in
    let h = w.steps in
    let i : c.pairs.i < from.steps = omega (arith, c.pairs-test) in
    let j : c.loop-j.j < from.steps = omega (arith, c.loop-j-test) in
    lower-next a.limits a.current start from w.standing (c.loop-j.invariant start from w) i (w.at.upper i) j c.pair-p.ensures
    (sym c.is_running.ensures ∙ c.if-not-is_running.false) (rw w.steps c.next-j.ensures)

pub next-i-requires-in-pairs : goal.next-i-requires-in-pairs
next-i-requires-in-pairs c =
    let r = (lower (goal.at.next-i-requires-in-pairs c).At-loop-j).underway.leads in
    record { held = held-fewer r.standing.held r.grows; from_le_m = omega (arith, c.pairs-test); scheduled = c.requires.scheduled }

pub pairs-preserved : goal.pairs-preserved
pairs-preserved c =
    let a = c.args in
    upper-next a.limits a.current a.proof.now a.from c.requires.standing (lower (goal.at.pairs-preserved c).At-loop-j)
    (omega (arith, c.loop-j-test)) (omega (arith, c.requires.standing.few, c.requires.steps_le_most_steps))
    c.next-i-in-pairs.ensures

pub returns-after-pairs : goal.returns-after-pairs
returns-after-pairs c =
    let a = c.args in
    let r = c.pairs.invariant in
    record {
      reaches = upper-done a.limits a.current a.proof.now a.from c.requires.standing r (omega arith);
      pairs_bound_2 = omega (arith, r.underway.counted, r.few, c.requires.standing.few, c.requires.steps_le_most_steps);
    }

pub returns-then-not-is_running : goal.returns-then-not-is_running
returns-then-not-is_running c =
    let a = c.args in
    let i : c.pairs.i < a.from.steps = omega (arith, c.pairs-test) in
    let j : c.loop-j.j < a.from.steps = omega (arith, c.loop-j-test) in
    record {
      reaches = round-ended a.limits a.current a.proof.now a.from c.requires.standing
          (lower (goal.at.returns-then-not-is_running c).At-loop-j) i (c.pairs.invariant.upper i) j c.pair-p.ensures
          (sym c.is_running.ensures ∙ c.if-not-is_running.true);
      pairs_bound_2 = omega (
        arith,
        (tried (goal.at.returns-then-not-is_running c).After-pair-p).counted,
        c.requires.standing.few,
        c.requires.steps_le_most_steps,
      );
    }
