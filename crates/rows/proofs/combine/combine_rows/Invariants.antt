-- `combine::combine_rows` meets its contract. Invariant: the first i elements are those of the combination. Assumes nothing.
use mathlib.Core.Path.{◌≡◌}
use Prim.Native.Nat.{◌-◌, ◌≤◌}
use lib.ListN.{length}
use Rattle.rules_types.specs.Limits as limit
use Rattle.rules.specs.Arithmetic.{combine}
use Rattle.rows.specs.Row.{Filled}
use Rattle.rows.proofs.combine.combine_rows.Given as goal

abbrev pub invariant-loop-i : goal.invariant-loop-i
invariant-loop-i l = (l.i ≤ limit.rationals) × (length l.us ≡ limit.rationals) × (length l.ls ≡ limit.rationals)
    × Filled (combine l.c l.us l.a l.ls) l.i l.out

abbrev pub decreases-loop-i : goal.decreases-loop-i
decreases-loop-i l = limit.rationals - l.i
