use native.Mathlib.Omega.{arith}
use Rattle.kept_rationals.specs.Alone.{seeking-start, seeking-done, seeking-within, seeking-stop, seeking-next}
use Rattle.kept_rationals.proofs.alone.alone.Goals as goal

pub loop-i-init : goal.loop-i-init
loop-i-init c = seeking-start _ _ _

pub u32_at-requires : goal.u32_at-requires
u32_at-requires c =
    omega (arith, seeking-within c.loop-i.invariant c.loop-i-test.true, c.requires)

pub returns-in_default : goal.returns-in_default
returns-in_default c =
    seeking-stop c.loop-i.invariant c.loop-i-test.true _ c.u32_at.ensures _ c.with_one-one.ensures
    c.in_default.is

pub overflow_add-at : goal.overflow_add-at
overflow_add-at c =
    omega (arith, seeking-within c.loop-i.invariant c.loop-i-test.true, c.requires, c.well_formed)

pub loop-i-preserved : goal.loop-i-preserved
loop-i-preserved c =
    seeking-next c.loop-i.invariant c.loop-i-test.true _ c.u32_at.ensures _ c.with_one-one.ensures _
    c.in-Found.is

pub returns : goal.returns
returns c = seeking-done c.loop-i.invariant c.loop-i-test.false
