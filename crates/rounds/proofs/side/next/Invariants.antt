-- `side::next` meets its contract. Invariant: no line is chosen between the number given and i. Assumes nothing.
use mathlib.Core.Path.{◌≡◌}
use Prim.Native.Nat.{◌-◌, ◌≤◌}
use Rattle.rounds.specs.Sides.{chosen, selected}
use Rattle.rounds.proofs.side.next.Given as goal

abbrev pub invariant-loop-i : goal.invariant-loop-i
invariant-loop-i l = (l.from ≤ l.i) × (l.i ≤ l.m)
    × (selected (chosen l.upper l.current) l.proof l.m l.from ≡ selected (chosen l.upper l.current) l.proof l.m l.i)

abbrev pub decreases-loop-i : goal.decreases-loop-i
decreases-loop-i l = l.m - l.i
