-- `content::quotient` meets its contract. Assumes nothing.
use mathlib.Core.Path.{sym}
use mir.Syntax.{w64}
use mir.Facts.{to_z-of_z, to_z_pos}
use Rattle.rows.specs.Row.{quot-one}
use Rattle.machine.specs.Signed.{fits-quot}
use Rattle.rows.proofs.content.quotient.Goals as goal

pub returns-then-g-eq1 : goal.returns-then-g-eq1
returns-then-g-eq1 c = rw (to_z-of_z c.ranges.z, c.if-g-eq1.true) (sym (quot-one c.args.z))

pub nonzero_div-result : goal.nonzero_div-result
nonzero_div-result c =
    rw (to_z-of_z c.ranges.z, to_z_pos w64 c.requires.g_bound) (c.requires.g_nonzero, fits-quot c.args.z c.args.g c.ranges.z)

pub returns : goal.returns
returns c =
    rw (to_z-of_z c.ranges.z, to_z_pos w64 c.requires.g_bound, to_z-of_z (fits-quot c.args.z c.args.g c.ranges.z))
