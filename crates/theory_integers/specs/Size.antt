-- |z|, as the natural number nat_abs z: of sums, products and negations, and as bounds on both sides.
use Rattle.std.specs.Prelude.{◌≡◌, refl, ℕ, zero, suc, ◌+◌, ◌*◌, ◌≤◌, ◌<◌, ℤ, pos, negsuc, neg_ℤ, nat_abs, ◌+ℤ◌, ◌-ℤ◌, ◌*ℤ◌, ◌≤ℤ◌, ◌<ℤ◌}
use Rattle.std.proofs.Common.{ap, mul-le-mul, arith}
use Rattle.theory_integers.specs.Difference.{plus, minus, v, #, ⊝, ◌⊕◌, ≤-by, ≤-from, <-from}

total : (z : ℤ) → nat_abs z ≡ plus z + minus z
total (pos n) = omega arith
total (negsuc n) = omega arith

-- ---- |z| ≤ n exactly if -n ≤ z ≤ n
pub abs-upper : (z : ℤ) {n : ℕ} → nat_abs z ≤ n → z ≤ℤ pos n
abs-upper z {n} h = ≤-by (v z) (# n) (omega (arith, total z))

pub abs-lower : (z : ℤ) {n : ℕ} → nat_abs z ≤ n → neg_ℤ (pos n) ≤ℤ z
abs-lower z {n} h = ≤-by (⊝ (# n)) (v z) (omega (arith, total z))

pub abs-≤ : (z : ℤ) (n : ℕ) → neg_ℤ (pos n) ≤ℤ z → z ≤ℤ pos n → nat_abs z ≤ n
abs-≤ (pos m) n h k = omega (arith, ≤-from (# m) (# n) k)
abs-≤ (negsuc m) n h k = omega (arith, ≤-from (⊝ (# n)) (⊝ (# (suc m))) h)

-- ---- negations, sums and products
pub abs_neg : (a : ℤ) → nat_abs (neg_ℤ a) ≡ nat_abs a
abs_neg (pos zero) = refl
abs_neg (pos (suc n)) = refl
abs_neg (negsuc n) = refl

pub abs-+ : (a b : ℤ) → nat_abs (a +ℤ b) ≤ nat_abs a + nat_abs b
abs-+ a b =
    let n = nat_abs a + nat_abs b in
    abs-≤ (a +ℤ b) n (≤-by (⊝ (# n)) (v a ⊕ v b) (omega (arith, total a, total b)))
    (≤-by (v a ⊕ v b) (# n) (omega (arith, total a, total b)))

pub abs-minus : (a b : ℤ) → nat_abs (a -ℤ b) ≤ nat_abs a + nat_abs b
abs-minus a b = omega (arith, abs-+ a (neg_ℤ b), abs_neg b)

pub abs-* : (a b : ℤ) → nat_abs (a *ℤ b) ≡ nat_abs a * nat_abs b
abs-* (pos a) (pos b) = refl
abs-* (pos a) (negsuc b) = abs_neg (pos (a * suc b))
abs-* (negsuc a) (pos b) = abs_neg (pos (suc a * b))
abs-* (negsuc a) (negsuc b) = refl

-- ---- sums and products of bounded numbers
pub abs-+-≤ : (a b : ℤ) {m n : ℕ} → nat_abs a ≤ m → nat_abs b ≤ n → nat_abs (a +ℤ b) ≤ m + n
abs-+-≤ a b h k = omega (arith, abs-+ a b)

pub abs-minus-≤ : (a b : ℤ) {m n : ℕ} → nat_abs a ≤ m → nat_abs b ≤ n → nat_abs (a -ℤ b) ≤ m + n
abs-minus-≤ a b h k = omega (arith, abs-minus a b)

pub abs-*-≤ : (a b : ℤ) {m n : ℕ} → nat_abs a ≤ m → nat_abs b ≤ n → nat_abs (a *ℤ b) ≤ m * n
abs-*-≤ a b h k = rw (abs-* a b) (mul-le-mul h k)

-- ---- only 0 has size 0
pub abs-zero : {z : ℤ} → nat_abs z ≡ 0 → z ≡ pos 0
abs-zero {z = pos n} e = ap pos e
abs-zero {z = negsuc n} e = absurd (omega arith)

pub 0<⇒0<abs : {z : ℤ} → pos 0 <ℤ z → 0 < nat_abs z
0<⇒0<abs {z = pos n} h = omega (arith, <-from (# 0) (# n) h)
0<⇒0<abs {z = negsuc n} h = omega arith

pub <0⇒0<abs : {z : ℤ} → z <ℤ pos 0 → 0 < nat_abs z
<0⇒0<abs {z = pos n} h = absurd (omega (arith, <-from (# n) (# 0) h))
<0⇒0<abs {z = negsuc n} h = omega arith
