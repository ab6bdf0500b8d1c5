-- `put_pair` meets its contract. Assumes nothing.
use native.Mathlib.Omega.{arith}
use Rattle.rules.specs.Print.{ascii, print_line}
use Rattle.printing.specs.Appended.{appended-++}
use Rattle.printing.proofs.counts.put_pair.Goals as goal

pub returns-clause-appended : goal.returns-clause-appended
unfolding print_line ascii
returns-clause-appended c = appended-++ (omega (arith, c.requires)) c.put_number-next.ensures.appended c.put_number.ensures.appended
