-- The least common multiple: both numbers divide it, and it divides every common multiple.
use Rattle.std.specs.Prelude.{◌≡◌, ℕ, ◌*◌, ◌/◌, ◌<◌}
use Rattle.std.proofs.Common.{sym, ap, arith}
use Rattle.std.specs.Int.{◌∣◌}
use native.Mathlib.Nat.{dvd-mul_left, dvd-mul_right, mul-dvd-mul_left, mul-dvd-mul_right, dvd_of_mul-dvd-mul_left, mul-div_cancel'}
use native.Mathlib.Nat.{pos_of_dvd_of_pos, mul-pos, mul_comm}
use Rattle.rules.specs.Arithmetic.{gcd, lcm}
use Rattle.theory_vectors.specs.Gcd.{gcd-dvdˡ, gcd-dvdʳ, gcd-greatest, gcd-positiveˡ, gcd-*}

-- gcd × lcm is the product
pub gcd-*-lcm : (a b : ℕ) → gcd a b * lcm a b ≡ a * b
unfolding lcm
gcd-*-lcm a b = let g = gcd a b in let e : g * (a / g) ≡ a = mul-div_cancel' g (gcd-dvdˡ a b) in omega (arith, ap (λ (x : ℕ). x * b) e)

pub lcm-dvdʳ : (a b : ℕ) → b ∣ lcm a b
unfolding lcm
lcm-dvdʳ a b = dvd-mul_left b (a / gcd a b)

-- a × (b / gcd) is it too
pub lcm-dvdˡ : (a b : ℕ) → 0 < a → a ∣ lcm a b
lcm-dvdˡ a b h =
    let g = gcd a b in
    let e : g * (a * (b / g)) ≡ g * lcm a b = omega (arith, gcd-*-lcm a b, ap (λ (x : ℕ). a * x) (mul-div_cancel' g (gcd-dvdʳ a b))) in
    let l : lcm a b ≡ a * (b / g) = sym (native.Mathlib.Nat.eq_of_mul-eq-mul_left g (gcd-positiveˡ a b h) _ _ e) in
    rw l (dvd-mul_right a (b / g))

pub lcm-positive : (a b : ℕ) → 0 < a → 0 < b → 0 < lcm a b
lcm-positive a b h k = pos_of_dvd_of_pos (gcd-lcm-dvd a b) (mul-pos h k)
  where
    gcd-lcm-dvd : (a b : ℕ) → lcm a b ∣ a * b
    gcd-lcm-dvd a b = rw (← gcd-*-lcm a b) (dvd-mul_left (lcm a b) (gcd a b))

-- a × b divides m × a and m × b, hence m × gcd a b, and the gcd comes out on both sides
pub lcm-least : (a b m : ℕ) → 0 < a → a ∣ m → b ∣ m → lcm a b ∣ m
lcm-least a b m z h k =
    let g = gcd a b in
    let l : a * b ∣ m * a = rw (mul_comm m a) (mul-dvd-mul_left b a k) in
    let r : a * b ∣ m * b = mul-dvd-mul_right a h b in
    let both : g * lcm a b ∣ g * m = rw (gcd-*-lcm a b, mul_comm g m, ← gcd-* m a b) (gcd-greatest (a * b) l r) in
    dvd_of_mul-dvd-mul_left (lcm a b) (gcd-positiveˡ a b z) both
