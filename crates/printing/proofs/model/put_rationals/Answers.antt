-- `put_rationals` meets its contract. Assumes nothing.
use native.Mathlib.Omega.{arith}
use Rattle.rules.specs.Print.{ascii}
use Rattle.printing.specs.Appended.{appended-++}
use Rattle.printing.proofs.model.put_rationals.Goals as goal

pub returns-clause-appended : goal.returns-clause-appended
unfolding ascii
returns-clause-appended c =
    appended-++ (omega (arith, c.requires.r_in_bounds_2))
    (rw c.from.ensures at c.put_count-next.ensures.appended)
    c.put_numerators.ensures.appended
