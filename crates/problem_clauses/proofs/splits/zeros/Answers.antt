use mathlib.Core.Path.{refl, sym, ◌∙◌}
use native.Mathlib.Omega.{arith}
use Rattle.problem_clauses.specs.Zeros.{zeros-done, zeros_within, zeros-stop, zeros-next}
use Rattle.problem_clauses.proofs.splits.zeros.Goals as goal

pub loop-left-init : goal.loop-left-init
loop-left-init c = record { end = refl; same = refl }

pub u32_at-requires : goal.u32_at-requires
u32_at-requires c = omega (arith, zeros_within c.loop-left.invariant c.loop-left-test.true, c.requires)

pub returns-then-u32_at-ne0 : goal.returns-then-u32_at-ne0
returns-then-u32_at-ne0 c =
    zeros-stop c.loop-left.invariant c.loop-left-test.true (λ e. c.if-u32_at-ne0.true (c.u32_at.ensures ∙ e))

pub overflow_add-at : goal.overflow_add-at
overflow_add-at c =
    omega (arith, zeros_within c.loop-left.invariant c.loop-left-test.true, c.requires, c.well_formed)

pub loop-left-preserved : goal.loop-left-preserved
loop-left-preserved c =
    zeros-next c.loop-left.invariant c.loop-left-test.true (sym c.u32_at.ensures ∙ c.if-u32_at-ne0.false)

pub returns : goal.returns
returns c = zeros-done c.loop-left.invariant c.loop-left-test.false
