-- `literal::literal_holds` meets its contract. Assumes nothing.
use mathlib.Core.Path.{ap}
use mathlib.Core.Bool.{not}
use borrow.Author.Tests.{le-leb, lt-leb}
use Rattle.rules.specs.Meaning.{literal_holds}
use Rattle.problem_clauses.specs.Literals.{literal_of}
use Rattle.models.specs.Model.{assignment}
use Rattle.model_check.proofs.literal.literal_holds.Goals as goal

pub returns-then-code-ge128 : goal.returns-then-code-ge128
unfolding literal_holds assignment literal_of
returns-then-code-ge128 c = rw (le-leb 128 c.args.code c.if-code-ge128.true) (ap not c.is_yes-yes.ensures)

pub returns-else-code-ge128 : goal.returns-else-code-ge128
unfolding literal_holds assignment literal_of
returns-else-code-ge128 c = rw (lt-leb 128 c.args.code c.if-code-ge128.false) c.is_yes-yes.ensures
