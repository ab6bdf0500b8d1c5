-- `parts::own` meets its contract. Assumes nothing.
use borrow.Author.Tests.{lt-ltb, le-ltb}
use Rattle.problem_parts.specs.Parts.{with_split}
use Rattle.problem_parts.proofs.parts.own.Goals as goal

pub returns-then-parts-gt1 : goal.returns-then-parts-gt1
unfolding with_split
returns-then-parts-gt1 c = rw (lt-ltb 1 c.args.parts.stay c.if-parts-gt1.true) c.with.ensures

pub returns : goal.returns
unfolding with_split
returns c = rw (le-ltb 1 c.args.parts.stay c.if-parts-gt1.false)
