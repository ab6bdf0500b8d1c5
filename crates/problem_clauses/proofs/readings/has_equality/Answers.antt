use mathlib.Core.Path.{refl, sym, ◌∙◌}
use native.Mathlib.Omega.{arith}
use Rattle.problem_clauses.specs.Readings.{seeking-done, seeking-within, seeking-found, seeking-next}
use Rattle.problem_clauses.proofs.readings.has_equality.Goals as goal

pub loop-left-init : goal.loop-left-init
loop-left-init c = record { end = refl; same = refl }

pub bounds-input-at : goal.bounds-input-at
bounds-input-at c =
    omega (arith, seeking-within c.loop-left.invariant c.loop-left-test.true, c.requires)

pub returns-then-is_equality : goal.returns-then-is_equality
returns-then-is_equality c =
    seeking-found c.loop-left.invariant c.loop-left-test.true (sym c.is_equality.ensures ∙ c.if-is_equality.true)

pub overflow_add-at : goal.overflow_add-at
overflow_add-at c =
    omega (arith, c.comparison_bytes-size.ensures, seeking-within c.loop-left.invariant c.loop-left-test.true, c.requires, c.well_formed)

pub loop-left-preserved : goal.loop-left-preserved
loop-left-preserved c =
    rw c.comparison_bytes-size.ensures
    (seeking-next c.loop-left.invariant c.loop-left-test.true (sym c.is_equality.ensures ∙ c.if-is_equality.false))

pub returns : goal.returns
returns c = seeking-done c.loop-left.invariant c.loop-left-test.false
