-- `content::divide` meets its contract. Invariant: the first i elements are the quotients. Assumes nothing.
use mathlib.Core.Path.{◌≡◌}
use Prim.Native.Nat.{◌-◌, ◌≤◌}
use lib.ListN.{length}
use Rattle.rules_types.specs.Limits as limit
use Rattle.theory_vectors.specs.Constraint.{quotients}
use Rattle.rows.specs.Row.{Filled}
use Rattle.rows.proofs.content.divide.Given as goal

abbrev pub invariant-loop-i : goal.invariant-loop-i
invariant-loop-i l = (l.i ≤ limit.rationals) × (length l.row ≡ limit.rationals) × Filled (quotients l.g l.row) l.i l.out

abbrev pub decreases-loop-i : goal.decreases-loop-i
decreases-loop-i l = limit.rationals - l.i
