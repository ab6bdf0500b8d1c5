-- `content::content` meets its contract. Invariant: the gcd of g and of what is left of the row is that of all. Assumes nothing.
use mathlib.Core.Path.{◌≡◌}
use mathlib.Core.List.{◌∷◌}
use Prim.Native.Nat.{◌-◌, ◌≤◌}
use lib.ListN.{length, drop}
use Rattle.rules_types.specs.Limits as limit
use Rattle.rules.specs.Arithmetic.{gcd, gcd_all}
use Rattle.rows.proofs.content.content.Given as goal

abbrev pub invariant-loop-i : goal.invariant-loop-i
invariant-loop-i l =
    (l.i ≤ limit.rationals) × (length l.row ≡ limit.rationals) × (gcd l.g (gcd_all (drop l.i l.row)) ≡ gcd_all (l.bound ∷ l.row))

abbrev pub decreases-loop-i : goal.decreases-loop-i
decreases-loop-i l = limit.rationals - l.i
