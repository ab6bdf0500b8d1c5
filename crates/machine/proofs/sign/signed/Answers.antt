-- `sign::signed` meets its contract: 0 - z is the number with its sign turned.
use mathlib.Core.Path.{◌≡◌, sym, ap, ◌∙◌}
use mathlib.Core.Bool.{Bool}
use native.Mathlib.Omega.{arith}
use lib.IntN.{ℤ, pos, neg_ℤ, ◌-ℤ◌}
use mir.Syntax.{w64}
use mir.Val.{SFits, to_z, of_z}
use mir.Facts.{to_z-of_z}
use Rattle.theory_integers.specs.Ring.{zero_minus}
use Rattle.theory_integers.specs.Size.{abs_neg}
use Rattle.rules.specs.Readings.{signed}
use Rattle.machine.specs.Signed.{fits-size}
use Rattle.machine.proofs.sign.signed.Goals as goal
use Rattle.machine.proofs.sign.signed.Goals.{Then-turned}

module _ (c : Then-turned) where
  abbrev z : ℤ
  z = c.args.z

  negative : pos 0 -ℤ to_z w64 (of_z w64 z) ≡ neg_ℤ z
  negative = ap (λ (x : ℤ). pos 0 -ℤ x) (to_z-of_z {w = w64} c.ranges.z) ∙ zero_minus z

  negative_fits : SFits w64 (neg_ℤ z)
  negative_fits = fits-size (neg_ℤ z) (omega (arith, abs_neg z, c.requires))

pub overflow_sub-result : goal.overflow_sub-result
overflow_sub-result c = rw (negative c) (negative_fits c)

pub returns-then-turned : goal.returns-then-turned
unfolding signed
returns-then-turned c =
    rw (negative c, to_z-of_z {w = w64} (negative_fits c)) (ap (λ (t : Bool). signed t (z c)) (sym c.if-turned.true))

pub returns : goal.returns
unfolding signed
returns c = let z = c.args.z in to_z-of_z {w = w64} c.ranges.z ∙ ap (λ (t : Bool). signed t z) (sym c.if-turned.false)
