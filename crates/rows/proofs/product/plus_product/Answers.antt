-- `product::plus_product` meets its contract. Assumes nothing.
use mathlib.Core.Path.{◌≡◌}
use borrow.Author.Rules.{rules}
use lib.IntN.{◌+ℤ◌, ◌*ℤ◌}
use mir.Syntax.{w64}
use mir.Val.{SFits, to_z, of_z}
use mir.Facts.{to_z-of_z}
use Rattle.rows.specs.Products.{product-fits, plus-product-fits}
use Rattle.rows.proofs.product.plus_product.Goals as goal
use Rattle.rows.proofs.product.plus_product.Goals.{Start}

pub overflow_mul-result : goal.overflow_mul-result
overflow_mul-result c = search (rules, product-fits)

fits : (s : Start) → SFits w64 (s.args.total +ℤ s.args.z *ℤ s.args.x)
fits s = plus-product-fits s.args.total s.args.z s.args.x s.requires.total_bound s.requires.small s.requires.small_2

-- what the bits of the operands come to
computed : (s : Start) → to_z w64 (of_z w64 s.args.total) +ℤ to_z w64
    (of_z w64 (to_z w64 (of_z w64 s.args.z) *ℤ to_z w64 (of_z w64 s.args.x))) ≡ s.args.total +ℤ s.args.z *ℤ s.args.x
computed s = rw (
  to_z-of_z s.ranges.total,
  to_z-of_z s.ranges.z,
  to_z-of_z s.ranges.x,
  to_z-of_z (product-fits s.args.z s.args.x s.requires.small s.requires.small_2),
)

pub overflow_add-result : goal.overflow_add-result
overflow_add-result c = rw (computed c) (fits c)

pub returns : goal.returns
returns c = rw (computed c) (to_z-of_z (fits c))
