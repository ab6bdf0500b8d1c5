-- `compare::same_bytes` meets its contract. Invariant: what is left of the bytes decides. Assumes nothing.
use mathlib.Core.Path.{◌≡◌}
use Prim.Native.Nat.{◌-◌, ◌≤◌}
use lib.Dec.{eqb}
use lib.ListN.{length, drop}
use Rattle.rules_types.specs.Limits.{step_bytes}
use Rattle.rules.specs.Lists.{same}
use Rattle.step_check.proofs.compare.same_bytes.Given as goal

abbrev pub invariant-loop-i : goal.invariant-loop-i
invariant-loop-i l = (l.i ≤ step_bytes) × (length l.a ≡ step_bytes) × (length l.b ≡ step_bytes)
    × (same eqb l.a l.b ≡ same eqb (drop l.i l.a) (drop l.i l.b))

abbrev pub decreases-loop-i : goal.decreases-loop-i
decreases-loop-i l = step_bytes - l.i
