-- `turned::turned` meets its contract. Invariant: the first i elements are turned.
use mathlib.Core.Path.{◌≡◌}
use mathlib.Core.Bool.{true}
use mathlib.Core.List.{map}
use Prim.Native.Nat.{◌-◌, ◌≤◌}
use lib.ListN.{length}
use Rattle.rules_types.specs.Limits as limit
use Rattle.rules.specs.Readings.{signed}
use Rattle.rows.specs.Row.{Filled}
use Rattle.rows.proofs.turned.turned.Given as goal

abbrev pub invariant-loop-i : goal.invariant-loop-i
invariant-loop-i l = (l.i ≤ limit.rationals) × (length l.row ≡ limit.rationals) × Filled (map (signed true) l.row) l.i l.out

abbrev pub decreases-loop-i : goal.decreases-loop-i
decreases-loop-i l = limit.rationals - l.i
