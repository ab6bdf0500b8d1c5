-- `splits::between` meets its contract. Assumes nothing.
use mathlib.Core.Path.{sym, ap}
use mathlib.Core.Bool.{false}
use Rattle.problem_clauses.specs.Splits.{splits_by}
use Rattle.problem_clauses.proofs.splits.between.Goals as goal

pub returns-else-n-eq0 : goal.returns-else-n-eq0
returns-else-n-eq0 c = sym (ap (splits_by false) c.in-Count.is)
