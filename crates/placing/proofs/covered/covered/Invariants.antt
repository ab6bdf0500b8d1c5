-- `covered::covered` meets its contract. Invariant: the steps left, those before i, decide. Assumes nothing.
use mathlib.Core.Path.{◌≡◌}
use Prim.Native.Nat.{◌≤◌}
use Rattle.rules.specs.Elimination.{covered}
use Rattle.lines.specs.Line.{meaning}
use Rattle.steps.specs.Lines.{line_at}
use Rattle.steps.specs.Held.{steps_in}
use Rattle.placing.proofs.covered.covered.Given as goal

abbrev pub invariant-loop-i : goal.invariant-loop-i
invariant-loop-i l = (l.i ≤ l.n)
    × (covered (meaning (line_at l.bytes 0)) (steps_in l.proof l.n) ≡ covered (meaning (line_at l.bytes 0)) (steps_in l.proof l.i))

abbrev pub decreases-loop-i : goal.decreases-loop-i
decreases-loop-i l = l.i
