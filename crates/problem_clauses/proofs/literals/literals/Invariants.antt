-- `literals::literals` meets its contract: the literals passed are gathered, from the last on.
use Rattle.problem_clauses.specs.Literals.{Gathered}
use Rattle.problem_clauses.proofs.literals.literals.Given as goal

abbrev pub invariant-loop-left : goal.invariant-loop-left
invariant-loop-left l = Gathered l.input l.from l.count l.left l.l.positive l.l.negative

abbrev pub decreases-loop-left : goal.decreases-loop-left
decreases-loop-left l = l.left
