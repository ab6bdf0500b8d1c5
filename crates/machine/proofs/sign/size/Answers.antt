-- `sign::size` meets its contract: a negative z has the size -(z + 1) + 1, of which every step fits. Assumes nothing.
use mathlib.Core.Path.{◌≡◌}
use mathlib.Core.Bool.{true}
use Prim.Native.Nat.{◌-◌}
use native.Mathlib.Omega.{arith}
use lib.IntN.{ℤ, pos, nat_abs, ◌+ℤ◌, ◌-ℤ◌}
use lib.Signed.{lt_z}
use mir.Syntax.{w64}
use mir.Val.{SFits, to_z, of_z}
use mir.Facts.{to_z-of_z}
use borrow.Author.Rules.{rules}
use Rattle.machine.specs.Signed.{next_fits, below-is, size-range, nonnegative, nonnegative-fits}
use Rattle.machine.proofs.sign.size.Goals as goal
use Rattle.machine.proofs.sign.size.Goals.{Then-z-lt0}

-- what the two steps of a negative number give
module _ (c : Then-z-lt0) where
  abbrev z : ℤ
  z = c.args.z

  negative : lt_z z (pos 0) ≡ true
  negative = rw (to_z-of_z c.ranges.z) at c.if-z-lt0.true

  next : to_z w64 (of_z w64 (to_z w64 (of_z w64 z) +ℤ pos 1)) ≡ z +ℤ pos 1
  next = rw (to_z-of_z c.ranges.z, to_z-of_z (next_fits z c.ranges.z negative))

  below-fits : SFits w64 (pos (nat_abs z - 1))
  below-fits = let r = size-range z c.ranges.z negative in record { sfits = omega arith }

  below : to_z w64 (of_z w64 (pos 0 -ℤ to_z w64 (of_z w64 (to_z w64 (of_z w64 z) +ℤ pos 1)))) ≡ pos (nat_abs z - 1)
  below = rw (next, below-is z negative, to_z-of_z below-fits)

pub overflow_add-next : goal.overflow_add-next
overflow_add-next c = rw (to_z-of_z c.ranges.z) (next_fits (z c) c.ranges.z (negative c))

pub overflow_sub-below : goal.overflow_sub-below
overflow_sub-below c = rw (next c, below-is (z c) (negative c)) (below-fits c)

pub overflow_cast-result : goal.overflow_cast-result
overflow_cast-result c = let r = size-range (z c) c.ranges.z (negative c) in rw (below c) (tt, omega arith)

pub overflow_add-result : goal.overflow_add-result
overflow_add-result c = let r = size-range (z c) c.ranges.z (negative c) in rw (below c) (omega arith)

pub returns-then-z-lt0 : goal.returns-then-z-lt0
returns-then-z-lt0 c = let r = size-range (z c) c.ranges.z (negative c) in rw (below c) (omega arith)

pub overflow_cast-result-2 : goal.overflow_cast-result-2
overflow_cast-result-2 c =
    let z = c.args.z in
    let e = to_z-of_z c.ranges.z in
    rw e (nonnegative z (rw e at c.if-z-lt0.false), nonnegative-fits z c.ranges.z (rw e at c.if-z-lt0.false))
