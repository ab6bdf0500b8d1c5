-- `sign::is_negative` meets its contract. Assumes nothing.
use borrow.Author.Rules.{rules}
use Rattle.machine.specs.Signed.{negative-test}
use Rattle.machine.proofs.sign.is_negative.Goals as goal

pub returns : goal.returns
returns c = search (rules, negative-test)
