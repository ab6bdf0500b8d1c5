use native.Mathlib.Omega.{arith}
use Rattle.theory_bytes.specs.Fields.{field_at-<}
use Rattle.kept_rationals.specs.Kept.{inside}
use Rattle.conversion.specs.Row.{filling-start, filling-done, filling-within, filling-fits, filling-next}
use Rattle.conversion.proofs.row.put_row.Goals as goal

pub loop-f-init : goal.loop-f-init
loop-f-init c = filling-start _ _ _ _ _ _ c.requires.from_in_bounds_2

pub u32_at-requires : goal.u32_at-requires
u32_at-requires c =
    omega (arith, filling-within _ _ c.loop-f.invariant c.loop-f-test.true, c.requires.from_in_bounds)

pub put_halves-next-requires : goal.put_halves-next-requires
unfolding inside
put_halves-next-requires c = record {
  n_bound = rw c.u32_at.ensures (field_at-< c.loop-f.at 4 c.args.input.now (λ i. omega
      (arith, c.shared_slice_known-1.given i)));
  n_in_bounds = filling-fits _ _ c.loop-f.invariant c.loop-f-test.true _ _ c.member.ensures c.u32_at.ensures;
}

pub overflow_add-at : goal.overflow_add-at
overflow_add-at c =
    omega (arith, filling-within _ _ c.loop-f.invariant c.loop-f-test.true, c.requires.from_in_bounds, c.well_formed)

pub loop-f-preserved : goal.loop-f-preserved
unfolding inside
loop-f-preserved c =
    filling-next _ _ c.loop-f.invariant c.loop-f-test.true _ _ c.member.ensures c.u32_at.ensures c.put_halves-next.ensures

pub returns : goal.returns
returns c = filling-done _ _ c.loop-f.invariant c.loop-f-test.false
