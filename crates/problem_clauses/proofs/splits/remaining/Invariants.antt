-- `splits::remaining` meets its contract: those counted so far and what is left come to the same.
use Rattle.problem_clauses.specs.Remaining.{Keeping}
use Rattle.problem_clauses.proofs.splits.remaining.Given as goal

abbrev pub invariant-loop-left : goal.invariant-loop-left
invariant-loop-left l = Keeping l.input l.second l.r l.from l.count l.at l.left l.n

abbrev pub decreases-loop-left : goal.decreases-loop-left
decreases-loop-left l = l.left
