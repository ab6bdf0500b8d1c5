-- `over::over` meets its contract: what is left to count comes to the same.
use Rattle.problem_read.specs.Over.{Counting}
use Rattle.problem_read.proofs.over.over.Given as goal

abbrev pub invariant-loop-left : goal.invariant-loop-left
invariant-loop-left l = Counting l.input l.r l.from l.count l.at l.left l.total

abbrev pub decreases-loop-left : goal.decreases-loop-left
decreases-loop-left l = l.left
