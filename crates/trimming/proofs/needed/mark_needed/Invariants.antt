-- `needed::mark_needed` meets its contract: what is left to be looked at gives all needed steps. Assumes nothing.
use Rattle.trimming.specs.Needed.{Marking}
use Rattle.trimming.proofs.needed.mark_needed.Given as goal

abbrev pub invariant-loop-k : goal.invariant-loop-k
invariant-loop-k l = Marking l.proof l.k l.marks

abbrev pub decreases-loop-k : goal.decreases-loop-k
decreases-loop-k l = l.k
