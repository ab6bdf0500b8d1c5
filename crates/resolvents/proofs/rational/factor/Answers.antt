-- `rational::factor` meets its contract. Assumes nothing.
use mathlib.Core.Path.{◌≡◌, ap, ◌∙◌}
use native.Mathlib.Omega.{arith}
use lib.IntN.{pos, nat_abs}
use mir.Syntax.{w64}
use mir.Facts.{to_z-of_z, to_z_pos}
use borrow.Author.Rules.{rules}
use Rattle.resolvents.proofs.rational.factor.Goals as goal

pub overflow_cast-result : goal.overflow_cast-result
overflow_cast-result c =
    let e : c.size.result ≡ nat_abs c.args.z = rw (to_z-of_z c.ranges.z) at c.size.ensures in
    record { sfits = omega (arith, c.requires) }

pub returns : goal.returns
returns c =
    let e : c.size.result ≡ nat_abs c.args.z = rw (to_z-of_z c.ranges.z) at c.size.ensures in
    to_z_pos w64 (omega (arith, c.requires)) ∙ ap pos e
