use native.Mathlib.Omega.{arith}
use Rattle.conversion.specs.Writing.{filling-start, filling-done, filling-within, filling-fits, filling-next}
use Rattle.conversion.specs.Comparisons.{comparison-places}
use Rattle.conversion.proofs.comparisons.put_comparisons.Goals as goal

pub loop-left-init : goal.loop-left-init
loop-left-init c = filling-start _ (comparison-places _) _ _ _ _ c.requires.from_in_bounds_2

pub put_comparison-next-requires : goal.put_comparison-next-requires
put_comparison-next-requires c = record {
  r_le_rationals = c.requires.r_le_rationals;
  r_in_bounds = omega (
    arith,
    filling-within _ (comparison-places _) c.loop-left.invariant c.loop-left-test.true,
    c.requires.from_in_bounds,
  );
  from_in_bounds = filling-fits _ (comparison-places _) c.loop-left.invariant c.loop-left-test.true;
}

pub overflow_add-at : goal.overflow_add-at
overflow_add-at c =
    omega (
      arith,
      c.comparison_bytes-at.ensures,
      filling-within _ (comparison-places _) c.loop-left.invariant
          c.loop-left-test.true,
      c.requires.from_in_bounds,
      c.well_formed,
    )

pub loop-left-preserved : goal.loop-left-preserved
loop-left-preserved c =
    rw c.comparison_bytes-at.ensures
    (filling-next _ (comparison-places _) c.loop-left.invariant c.loop-left-test.true c.put_comparison-next.ensures)

pub returns : goal.returns
returns c = filling-done _ (comparison-places _) c.loop-left.invariant c.loop-left-test.false
