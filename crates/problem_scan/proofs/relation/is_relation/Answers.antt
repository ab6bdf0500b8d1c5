-- `relation::is_relation` meets its contract. Assumes nothing.
use borrow.Author.Tests.{le-leb, lt-leb}
use Rattle.rules.specs.Problem.{is_relation}
use Rattle.problem_scan.proofs.relation.is_relation.Goals as goal

pub returns-then-code-ge1 : goal.returns-then-code-ge1
unfolding is_relation
returns-then-code-ge1 c = rw (le-leb _ _ c.if-code-ge1.true)

pub returns-else-code-ge1 : goal.returns-else-code-ge1
unfolding is_relation
returns-else-code-ge1 c = rw (lt-leb _ _ c.if-code-ge1.false)
