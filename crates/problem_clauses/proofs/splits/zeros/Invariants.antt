-- `splits::zeros` meets its contract: whether those left are all 0 stays the answer.
use Rattle.problem_clauses.specs.Zeros.{Zeros}
use Rattle.problem_clauses.proofs.splits.zeros.Given as goal

abbrev pub invariant-loop-left : goal.invariant-loop-left
invariant-loop-left l = Zeros l.input l.from l.count l.at l.left

abbrev pub decreases-loop-left : goal.decreases-loop-left
decreases-loop-left l = l.left
