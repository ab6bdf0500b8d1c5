-- `store::get` meets its contract. Invariant: the first j bytes are copied. Assumes nothing.
use mathlib.Core.Path.{◌≡◌}
use lib.ListN.{length, get_or}
use Prim.Native.Nat.{ℕ, ◌+◌, ◌-◌, ◌≤◌, ◌<◌}
use Rattle.rules_types.specs.Limits.{step_bytes}
use Rattle.steps.proofs.store.get.Given as goal

abbrev pub invariant-loop-j : goal.invariant-loop-j
invariant-loop-j l = (l.j ≤ step_bytes)
    × ((length l.bytes ≡ step_bytes) × ((k : ℕ) → k < l.j → get_or l.bytes k 0 ≡ get_or l.proof (l.at + k) 0))

abbrev pub decreases-loop-j : goal.decreases-loop-j
decreases-loop-j l = step_bytes - l.j
