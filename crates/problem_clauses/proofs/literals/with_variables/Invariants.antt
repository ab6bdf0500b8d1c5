-- `literals::with_variables` meets its contract: what is left to join comes to the same.
use Rattle.problem_clauses.specs.Literals.{Joining}
use Rattle.problem_clauses.proofs.literals.with_variables.Given as goal

abbrev pub invariant-loop-left : goal.invariant-loop-left
invariant-loop-left l = Joining l.input l.from l.count l.mask l.at l.left l.all

abbrev pub decreases-loop-left : goal.decreases-loop-left
decreases-loop-left l = l.left
