-- `occurring::occurring` meets its contract: what is left to gather comes to the same.
use Rattle.problem_read.specs.Occurring.{Gathering}
use Rattle.problem_read.proofs.occurring.occurring.Given as goal

abbrev pub invariant-loop-left : goal.invariant-loop-left
invariant-loop-left l = Gathering l.input l.sizes l.at l.left l.mask

abbrev pub decreases-loop-left : goal.decreases-loop-left
decreases-loop-left l = l.left
