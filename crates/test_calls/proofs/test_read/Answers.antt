-- `test_calls::test_read` meets its contract. Assumes nothing.
use mathlib.Core.Path.{◌≡◌, sym, ap, ◌∙◌}
use Rattle.rules.specs.Calls.{read}
use Rattle.test_calls.specs.Told.{told, told_of, told_is}
use borrow.Author.Rules.{rules}
use Rattle.test_calls.proofs.test_read.Goals as goal
use Rattle.test_calls.proofs.test_read.Goals.{After-read-s}

-- what the call for reading gave, as it is told
is-told : (a : After-read-s) → told_of a.read-s.result ≡ told (read a.args.input.now)
is-told a = ap told_of a.read-s.ensures ∙ told_is (read a.args.input.now)

pub returns-in-Sound : goal.returns-in-Sound
unfolding told_of
returns-in-Sound c = sym (ap told_of c.in-Sound.is) ∙ is-told (goal.at.returns-in-Sound c).After-read-s

pub returns-in-Fault : goal.returns-in-Fault
unfolding told_of
returns-in-Fault c =
    let e = sym (ap told_of c.in-Fault.is) ∙ is-told (goal.at.returns-in-Fault c).After-read-s in
    rw c.number.ensures e
