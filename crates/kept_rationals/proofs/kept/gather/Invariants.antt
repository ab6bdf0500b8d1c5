-- `kept::gather` meets its contract: what is left to gather comes to the same. Assumes nothing.
use Rattle.kept_rationals.specs.Kept.{Keeping}
use Rattle.kept_rationals.proofs.kept.gather.Given as goal

abbrev pub invariant-loop-left : goal.invariant-loop-left
invariant-loop-left l = Keeping l.input l.sizes l.at l.left l.mask l.comparisons

abbrev pub decreases-loop-left : goal.decreases-loop-left
decreases-loop-left l = l.left
