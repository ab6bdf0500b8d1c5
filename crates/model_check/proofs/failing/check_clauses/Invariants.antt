-- `failing::check_clauses` meets its contract. Invariant: what is left decides, and its clauses are within their limits.
use Rattle.models.specs.Model.{assignment}
use Rattle.model_check.specs.Failing.{Checking}
use Rattle.model_check.proofs.failing.check_clauses.Given as goal

abbrev pub invariant-loop-k : goal.invariant-loop-k
invariant-loop-k l = Checking l.input l.r l.from l.count (assignment l.model) l.at l.k
