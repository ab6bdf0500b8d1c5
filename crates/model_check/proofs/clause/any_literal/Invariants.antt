-- `clause::any_literal` meets its contract: what is left decides.
use Rattle.rules.specs.Meaning.{literal_holds}
use Rattle.problem_scan.specs.Values.{literal_at}
use Rattle.models.specs.Model.{assignment}
use Rattle.model_check.specs.Any.{Asking}
use Rattle.model_check.proofs.clause.any_literal.Given as goal

abbrev pub invariant-loop-i : goal.invariant-loop-i
invariant-loop-i l = Asking (literal_holds (assignment l.model)) (literal_at l.input) 1 l.from l.count l.i
