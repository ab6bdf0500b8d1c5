-- `load::load_added` meets its contract. Invariant: the clauses that are left come to what all that are added come to. Assumes nothing.
use Prim.Native.Nat.{◌-◌}
use Rattle.elimination.specs.Added.{AtAdded}
use Rattle.elimination.proofs.load.load_added.Given as goal

abbrev pub invariant-loop-f : goal.invariant-loop-f
invariant-loop-f l = AtAdded l.limits l.n l.count l.initial.proof l.initial.p l.proof l.p l.f

abbrev pub decreases-loop-f : goal.decreases-loop-f
decreases-loop-f l = l.count - l.f
