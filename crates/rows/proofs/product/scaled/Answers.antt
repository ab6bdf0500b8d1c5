-- `product::scaled` meets its contract. Assumes nothing.
use mathlib.Core.Path.{◌≡◌}
use native.Mathlib.Omega.{arith}
use lib.IntN.{pos}
use mir.Syntax.{w64}
use mir.Val.{to_z}
use mir.Facts.{to_z-of_z, to_z_pos}
use Rattle.rows.specs.Products.{scaled_fits}
use Rattle.rows.proofs.product.scaled.Goals as goal
use Rattle.rows.proofs.product.scaled.Goals.{Start}

-- the denominator as an i64
widened : (s : Start) → to_z w64 s.args.denominator ≡ pos s.args.denominator
widened s = to_z_pos w64 (omega (arith, s.ranges.denominator.fits))

pub overflow_mul-result : goal.overflow_mul-result
overflow_mul-result c = rw (widened c, to_z-of_z c.ranges.bound)
    (scaled_fits c.args.bound c.args.denominator c.requires c.ranges.denominator.fits)

pub returns : goal.returns
returns c = rw (widened c, to_z-of_z c.ranges.bound)
    (to_z-of_z (scaled_fits c.args.bound c.args.denominator c.requires c.ranges.denominator.fits))
