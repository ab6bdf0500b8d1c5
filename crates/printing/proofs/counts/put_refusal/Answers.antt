-- `put_refusal` meets its contract. Assumes nothing.
use mathlib.Core.List.{append_assoc}
use native.Mathlib.Omega.{arith}
use Rattle.rules.specs.Print.{ascii, print_line, print_refusal}
use Rattle.printing.specs.Appended.{appended-++}
use Rattle.printing.proofs.counts.put_refusal.Goals as goal

pub returns-clause-appended : goal.returns-clause-appended
unfolding print_refusal print_line ascii
returns-clause-appended c =
    let two = appended-++ (omega (arith, c.requires)) c.put_word-first.ensures.appended
    (rw (c.from.ensures, c.number-number.ensures) at c.put_number-second.ensures.appended) in
    rw append_assoc at (appended-++ (omega (arith, c.requires)) two c.put_pair.ensures.appended)
