-- `round::round` meets its contract. Invariants: the pairs that are left at each loop's test come to what the round comes to; of the
use mathlib.Core.List.{List}
use Prim.Native.Nat.{ℕ, ◌-◌}
use Rattle.placing.specs.declared.point.Point.{Point}
use Rattle.rounds.specs.Round.{AtUpper, AtLower, Entered}
use Rattle.rounds.proofs.round.round.Given as goal

abbrev pub invariant-loop-j : goal.invariant-loop-j
invariant-loop-j l = (start : List ℕ) (from : Point)
    → Entered l.limits l.current l.m l.initial.j start from l.initial.proof l.initial.p l.i
    → AtLower l.limits l.current start from l.proof l.p l.i l.j

abbrev pub decreases-loop-j : goal.decreases-loop-j
decreases-loop-j l = l.m - l.j

abbrev pub invariant-pairs : goal.invariant-pairs
invariant-pairs l = AtUpper l.limits l.current l.initial.proof l.initial.p l.proof l.p l.i

abbrev pub decreases-pairs : goal.decreases-pairs
decreases-pairs l = l.m - l.i
