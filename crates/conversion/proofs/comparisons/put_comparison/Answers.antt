-- `comparisons::put_comparison` meets its contract: relation, row and bound are stored one behind another. Assumes nothing.
use mathlib.Core.Path.{refl}
use Prim.Native.Nat.{◌+◌}
use native.Mathlib.Omega.{arith}
use Rattle.problem_scan.specs.Values.{behind-is}
use Rattle.kept_rationals.specs.Kept.{inside}
use Rattle.conversion.specs.Writing.{Wrote}
use Rattle.conversion.specs.Comparisons.{split_comparison_at, relation-fits, row_fits, bound-fits, wrote-comparison}
use Rattle.conversion.proofs.comparisons.put_comparison.Goals as goal
use Rattle.conversion.proofs.comparisons.put_comparison.Goals.{After-slice_known-3-1}

pub bounds-out-to : goal.bounds-out-to
bounds-out-to c =
    relation-fits _ _ _ c.args.out.now _ _ c.requires.from_in_bounds

pub put_row-bound-requires : goal.put_row-bound-requires
put_row-bound-requires c = record {
  r_le_rationals = c.requires.r_le_rationals;
  from_in_bounds = omega (arith, behind-is 4 c.args.r (c.args.from + 1), c.requires.r_in_bounds);
  from_in_bounds_2 = row_fits _ _ _ c.args.out.now _ _
      c.requires.from_in_bounds refl;
}

pub put_u32-requires : goal.put_u32-requires
put_u32-requires c =
    bound-fits _ _ _ c.args.out.now _ _ c.requires.from_in_bounds refl c.put_row-bound.ensures

-- all of it
wrote : (c : After-slice_known-3-1) → Wrote c.args.out.now c.args.to
    (split_comparison_at (inside c.args.mask) c.args.input.now c.args.r c.args.from)
    c.put_u32.new.s (c.put_row-bound.result + 4)
wrote c =
    wrote-comparison _ _ _ c.args.out.now _ _ c.requires.from_in_bounds refl c.put_row-bound.ensures _
    (rw c.comparison_bound.ensures at c.u32_at.ensures) c.put_u32.ensures

pub overflow_add-result : goal.overflow_add-result
overflow_add-result c =
    omega (arith, (wrote c).behind, c.requires.from_in_bounds, c.well_formed)

pub returns : goal.returns
returns c = wrote c
