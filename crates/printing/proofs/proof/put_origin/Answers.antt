-- `put_origin` meets its contract. Assumes nothing.
use mathlib.Core.List.{append_assoc}
use native.Mathlib.Omega.{arith}
use Rattle.rules.specs.Print.{ascii, print_line}
use Rattle.printing.specs.Appended.{appended-++}
use Rattle.printing.proofs.proof.put_origin.Goals as goal

pub returns-clause-appended : goal.returns-clause-appended
unfolding print_line ascii
returns-clause-appended c =
    let two = appended-++ (omega (arith, c.requires)) (rw c.from.ensures at c.put_number-which.ensures.appended)
    (rw c.from-2.ensures at c.put_number-parents.ensures.appended) in
    rw append_assoc at (appended-++ (omega (arith, c.requires)) two c.put_pair.ensures.appended)
