-- `places::place_of` meets its contract: n is the place of variable f. Assumes nothing.
use mathlib.Core.Path.{◌≡◌}
use Prim.Native.Nat.{◌-◌, ◌≤◌}
use Rattle.rules.specs.Convert.{place_of}
use Rattle.kept_rationals.specs.Kept.{inside}
use Rattle.kept_rationals.proofs.places.place_of.Given as goal

abbrev pub invariant-loop-f : goal.invariant-loop-f
invariant-loop-f l = (l.n ≡ place_of (inside l.mask) l.f) × (l.f ≤ l.r)

abbrev pub decreases-loop-f : goal.decreases-loop-f
decreases-loop-f l = l.r - l.f
