-- `follow::follow_steps` meets its contract. Invariant: the first i steps follow, and what is left decides. Assumes nothing.
use Prim.Native.Nat.{◌-◌}
use Rattle.rules.specs.Elimination.{loadable_of}
use Rattle.problem_read.specs.Parsed.{posed_at}
use Rattle.proof_check.specs.Checking.{Following}
use Rattle.proof_check.proofs.follow.follow_steps.Given as goal

abbrev pub invariant-loop-i : goal.invariant-loop-i
invariant-loop-i l = Following (loadable_of (posed_at l.edition l.input l.sizes)) l.proof l.count l.i

abbrev pub decreases-loop-i : goal.decreases-loop-i
decreases-loop-i l = l.count - l.i
