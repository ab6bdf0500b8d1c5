use mathlib.Core.Path.{refl, sym, ◌∙◌}
use native.Mathlib.Omega.{arith}
use Rattle.problem_clauses.specs.Remaining.{weight-≤, keeping-done, keeping-within, keeping-drop}
use Rattle.problem_clauses.proofs.Remaining.{keeping-next}
use Rattle.problem_clauses.proofs.splits.remaining.Goals as goal

pub loop-left-init : goal.loop-left-init
loop-left-init c = record { end = refl; few = omega arith; same = refl }

pub settled-f-requires : goal.settled-f-requires
settled-f-requires c = omega (arith, keeping-within c.loop-left.invariant c.loop-left-test.true, c.requires)

pub returns-then-is_always : goal.returns-then-is_always
returns-then-is_always c =
    keeping-drop c.loop-left.invariant c.loop-left-test.true c.settled-f.result c.settled-f.ensures
    (sym c.is_always.ensures ∙ c.if-is_always.true)

pub overflow_add-n : goal.overflow_add-n
overflow_add-n c =
    omega (
      arith,
      c.weight-n.ensures,
      weight-≤ c.settled-f.result,
      c.loop-left.invariant.few,
      c.loop-left-test.true,
      c.ranges.count,
    )

pub overflow_add-at : goal.overflow_add-at
overflow_add-at c =
    omega (arith, c.comparison_bytes-size.ensures, keeping-within c.loop-left.invariant c.loop-left-test.true, c.requires, c.well_formed)

pub loop-left-preserved : goal.loop-left-preserved
loop-left-preserved c =
    rw (c.comparison_bytes-size.ensures, c.weight-n.ensures)
    (keeping-next c.loop-left.invariant c.loop-left-test.true c.settled-f.result c.settled-f.ensures
    (sym c.is_always.ensures ∙ c.if-is_always.false))

pub returns : goal.returns
returns c = keeping-done c.loop-left.invariant c.loop-left-test.false
