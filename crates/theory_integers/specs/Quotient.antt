-- Division of an integer by a positive natural number that divides it.
use Rattle.std.specs.Prelude.{◌≡◌, refl, ℕ, zero, suc, ◌/◌, ◌≤◌, ◌<◌, ℤ, pos, negsuc, neg_ℤ, nat_abs, ◌*ℤ◌, ◌<ℤ◌}
use Rattle.std.proofs.Common.{sym, ap, ◌∙◌, div-le_self, arith}
use Rattle.std.specs.Int.{◌∣◌}
use Rattle.std.proofs.Math.Nat.{mul-div_cancel', pos_of_dvd_of_pos, dvd-mul_right}
use Rattle.std.specs.Int.Signed.{quot_z}
use Rattle.theory_integers.specs.Ring.{neg-Involutive, neg-distribʳ-*, *-zeroʳ}
use Rattle.theory_integers.specs.Product.{*-cancelˡ-<, *-cancelˡ-≡}
use Rattle.theory_integers.specs.Natural.{pos-mono-<}
use Rattle.theory_integers.specs.Size.{abs_neg, abs-*, 0<⇒0<abs, <0⇒0<abs}

-- it is exact
pub *-quot : (g : ℕ) (z : ℤ) → g ∣ nat_abs z → pos g *ℤ quot_z z (pos g) ≡ z
*-quot g (pos n) h = ap pos (mul-div_cancel' g h)
*-quot g (negsuc n) h = neg-distribʳ-* (pos g) (pos (suc n / g)) ∙ ap (λ (t : ℕ). neg_ℤ (pos t)) (mul-div_cancel' g h)

-- the size of the quotient, exact or not
pub abs-quot : (g : ℕ) (z : ℤ) → nat_abs (quot_z z (pos g)) ≡ nat_abs z / g
abs-quot g (pos n) = refl
abs-quot g (negsuc n) = abs_neg (pos (suc n / g))

pub abs-quot-≤ : (g : ℕ) (z : ℤ) → nat_abs (quot_z z (pos g)) ≤ nat_abs z
abs-quot-≤ g z = rw (abs-quot g z) (div-le_self (nat_abs z) g)

pub quot-zero : (g : ℕ) → quot_z (pos 0) (pos g) ≡ pos 0
quot-zero g = let e : 0 / g ≤ 0 = div-le_self 0 g in let f : 0 / g ≡ 0 = omega arith in ap pos f

pub quot-neg : (g : ℕ) (z : ℤ) → quot_z (neg_ℤ z) (pos g) ≡ neg_ℤ (quot_z z (pos g))
quot-neg g (pos zero) = rw (quot-zero g)
quot-neg g (pos (suc n)) = refl
quot-neg g (negsuc n) = sym (neg-Involutive (pos (suc n / g)))

-- a multiple, divided again
pub quot-* : (g : ℕ) (z : ℤ) → 0 < g → quot_z (pos g *ℤ z) (pos g) ≡ z
quot-* g z h =
    let d : g ∣ nat_abs (pos g *ℤ z) = rw (abs-* (pos g) z) (dvd-mul_right g (nat_abs z)) in
    *-cancelˡ-≡ (quot_z (pos g *ℤ z) (pos g)) z (pos-mono-< h) (*-quot g (pos g *ℤ z) d)

-- of a natural number
pub quot-pos : (m g : ℕ) → quot_z (pos m) (pos g) ≡ pos (m / g)
quot-pos m g = refl

-- ---- the quotient has the dividend's sign
pub quot-positive : (g : ℕ) {z : ℤ} → g ∣ nat_abs z → pos 0 <ℤ z → pos 0 <ℤ quot_z z (pos g)
quot-positive g {z} d h =
    *-cancelˡ-< (pos 0) (quot_z z (pos g)) (pos-mono-< (pos_of_dvd_of_pos d (0<⇒0<abs h))) (rw (*-zeroʳ (pos g), *-quot g z d) h)

pub quot-negative : (g : ℕ) {z : ℤ} → g ∣ nat_abs z → z <ℤ pos 0 → quot_z z (pos g) <ℤ pos 0
quot-negative g {z} d h =
    *-cancelˡ-< (quot_z z (pos g)) (pos 0) (pos-mono-< (pos_of_dvd_of_pos d (<0⇒0<abs h))) (rw (*-zeroʳ (pos g), *-quot g z d) h)
