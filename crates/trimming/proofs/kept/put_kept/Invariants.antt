-- `kept::put_kept` meets its contract. Invariant: the kept ones of the first k steps are written. Assumes nothing.
use Prim.Native.Nat.{◌-◌}
use Rattle.trimming.specs.Marks.{is_marked}
use Rattle.trimming.specs.Kept.{Putting}
use Rattle.trimming.proofs.kept.put_kept.Given as goal

abbrev pub invariant-loop-k : goal.invariant-loop-k
invariant-loop-k l = Putting l.proof (is_marked l.marks) l.initial.target l.k l.n l.target

abbrev pub decreases-loop-k : goal.decreases-loop-k
decreases-loop-k l = l.count - l.k
