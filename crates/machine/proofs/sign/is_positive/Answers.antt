-- `sign::is_positive` meets its contract. Assumes nothing.
use borrow.Author.Rules.{rules}
use Rattle.machine.specs.Signed.{positive-test}
use Rattle.machine.proofs.sign.is_positive.Goals as goal

pub returns : goal.returns
returns c = search (rules, positive-test)
