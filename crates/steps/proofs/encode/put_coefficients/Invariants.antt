-- `encode::put_coefficients` meets its contract. Invariant: the first i amounts are stored. Assumes nothing.
use mathlib.Core.Path.{◌≡◌}
use Prim.Native.Nat.{◌-◌, ◌≤◌}
use lib.ListN.{length, take}
use Rattle.rules_types.specs.Limits.{rationals}
use Rattle.rules_types.specs.Layout.{step_coefficients}
use Rattle.rules.specs.Bytes.{amount_bytes}
use Rattle.fields.specs.Field.{stored}
use Rattle.steps.proofs.encode.put_coefficients.Given as goal

abbrev pub invariant-loop-i : goal.invariant-loop-i
invariant-loop-i l = (l.i ≤ rationals) × (length l.row ≡ rationals) × (length l.s ≡ length l.initial.s)
    × (l.s ≡ stored step_coefficients (amount_bytes (take l.i l.row)) l.initial.s)

abbrev pub decreases-loop-i : goal.decreases-loop-i
decreases-loop-i l = rationals - l.i
