-- `skip::skip` meets its contract: what stays of those left is what stays of all.
use Rattle.problem_parts.specs.Skip.{Skipping}
use Rattle.problem_parts.proofs.skip.skip.Given as goal

abbrev pub invariant-loop-at : goal.invariant-loop-at
invariant-loop-at l = Skipping l.input l.second l.r l.from l.count l.stay l.at l.left

abbrev pub decreases-loop-at : goal.decreases-loop-at
decreases-loop-at l = l.left
