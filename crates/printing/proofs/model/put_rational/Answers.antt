-- `put_rational` meets its contract. Assumes nothing.
use native.Mathlib.Omega.{arith}
use mir.Facts.{to_z-of_z}
use Rattle.rules.specs.Print.{ascii, print_line}
use Rattle.printing.specs.Appended.{appended-++}
use Rattle.printing.proofs.model.put_rational.Goals as goal

pub returns-clause-appended : goal.returns-clause-appended
unfolding print_line ascii
returns-clause-appended c =
    appended-++ (omega (arith, c.requires))
    (rw (to_z-of_z c.ranges.numerator) at c.put_signed-next.ensures.appended)
    c.put_number.ensures.appended
