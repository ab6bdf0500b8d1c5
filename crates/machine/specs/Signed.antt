-- Signed machine numbers, of 64 bits: what fits, and what the tests of the sign say. Each law is of plain integers.
use Rattle.std.specs.Prelude.{◌≡◌, Bool, ℕ, zero, suc, ◌+◌, ◌-◌, ◌^◌, ◌/◌, ◌≤◌, ◌<◌, ℤ, pos, negsuc, neg_ℤ, nat_abs, ◌+ℤ◌, ◌-ℤ◌, eqb}
use Rattle.std.proofs.Math.Path.{refl, sym}
use Rattle.std.proofs.Common.{ap, ◌∙◌, subst, lt_of_le_of_lt, div-le_self, arith, Fits, SFits, of_z, to_z, to_z-of_z}
use Rattle.std.proofs.Math.Bool.{true, false}
use Rattle.std.specs.Int.Signed.{mag, le_z, lt_z, quot_z, non_neg}
use Rattle.std.proofs.Math.Dec.{T, leb}
use Rattle.std.specs.Int.{w64}
use Rattle.std.proofs.Math.Facts.{sfits_lit}
use borrow.Author.Tests.{leb-true, leb-false, ltb-true, le-leb, lt-leb, lt-ltb, le-ltb, eq-eqb, ne_eqb}
use Rattle.rules_types.specs.Limits as limit
use Rattle.theory_integers.specs.Difference.{v, #, ⊝, ◌⊕◌, ◌⊖◌, ≡-by}
use Rattle.theory_integers.specs.Size.{abs_neg}
use Rattle.theory_vectors.specs.Sign.{equal-yes, yes-equal}
use Rattle.rules.specs.Arithmetic.{is_positive, is_negative, is_zero, equal}
use Rattle.rules.specs.Problem.{in_range}

-- a number of a size below 2^63 fits
pub fits-size : (z : ℤ) → nat_abs z < 2 ^ 63 → SFits w64 z
fits-size (pos n) h = record { sfits = h }
fits-size (negsuc n) h = record { sfits = omega arith }

-- ---- the tests of the sign
pub positive-test : (z : ℤ) → lt_z (pos 0) z ≡ is_positive z
unfolding is_positive
positive-test (pos zero) = refl
positive-test (pos (suc n)) = lt-ltb 0 (suc n) (omega arith)
positive-test (negsuc n) = refl

pub negative-test : (z : ℤ) → lt_z z (pos 0) ≡ is_negative z
unfolding is_negative
negative-test (pos n) = le-ltb n 0 (omega arith)
negative-test (negsuc n) = refl

pub bits-injective : (a b : ℤ) → SFits w64 a → SFits w64 b → of_z w64 a ≡ of_z w64 b → a ≡ b
bits-injective a b f g e = sym (to_z-of_z f) ∙ ap (to_z w64) e ∙ to_z-of_z g

pub zero_test : (z : ℤ) → SFits w64 z → eqb (of_z w64 z) 0 ≡ is_zero z
unfolding is_zero
zero_test (pos zero) f = refl
zero_test (pos (suc n)) f = ne_eqb (suc n) 0 (λ e. omega (arith, e))
zero_test (negsuc n) f = ne_eqb (of_z w64 (negsuc n)) 0 (λ e. by (bits-injective (negsuc n) (pos 0) f (sfits_lit tt) e))
  where
    by : negsuc n ≡ pos 0 → ⊥
    by e = omega (arith, ap nat_abs e)

-- and of equality
pub equal-test : (a b : ℤ) → SFits w64 a → SFits w64 b → eqb (of_z w64 a) (of_z w64 b) ≡ equal a b
equal-test a b f g = by (equal a b) refl
  where
    by : (t : Bool) → equal a b ≡ t → eqb (of_z w64 a) (of_z w64 b) ≡ t
    by true e = eq-eqb (of_z w64 a) (of_z w64 b) (ap (of_z w64) (equal-yes a b (subst T (sym e) tt)))
    by false e = ne_eqb (of_z w64 a) (of_z w64 b) (λ i. subst T e (yes-equal (bits-injective a b f g i)))

-- ---- the size of a negative number, by way of its successor
pub next_fits : (z : ℤ) → SFits w64 z → lt_z z (pos 0) ≡ true → SFits w64 (z +ℤ pos 1)
next_fits (pos n) f t = absurd (omega (arith, ltb-true n 0 t))
next_fits (negsuc n) f t =
    let e : negsuc n +ℤ pos 1 ≡ neg_ℤ (pos n) = ≡-by (v (negsuc n) ⊕ # 1) (⊝ (# n)) (omega arith) in
    rw e (fits-size (neg_ℤ (pos n)) (rw (abs_neg (pos n)) f.sfits))

pub below-is : (z : ℤ) → lt_z z (pos 0) ≡ true → pos 0 -ℤ (z +ℤ pos 1) ≡ pos (nat_abs z - 1)
below-is (pos n) t = absurd (omega (arith, ltb-true n 0 t))
below-is (negsuc n) t = ≡-by (# 0 ⊖ (v (negsuc n) ⊕ # 1)) (# (suc n - 1)) (omega arith)

pub size-range : (z : ℤ) → SFits w64 z → lt_z z (pos 0) ≡ true → (0 < nat_abs z) × (nat_abs z ≤ 2 ^ 63)
size-range (pos n) f t = absurd (omega (arith, ltb-true n 0 t))
size-range (negsuc n) f t = let k : n < 2 ^ 63 = f.sfits in omega arith

-- ---- and of any other
pub nonnegative : (z : ℤ) → lt_z z (pos 0) ≡ false → T (non_neg z)
nonnegative (pos n) t = tt
nonnegative (negsuc n) t = absurd (subst T t tt)

pub nonnegative-fits : (z : ℤ) → SFits w64 z → lt_z z (pos 0) ≡ false → Fits w64 (nat_abs z)
nonnegative-fits (pos n) f t = let k : n < 2 ^ 63 = f.sfits in record { fits = omega arith }
nonnegative-fits (negsuc n) f t = absurd (subst T t tt)

-- ---- quotients by a positive number
mag-quot : (z : ℤ) (g : ℕ) → mag (quot_z z (pos g)) ≤ mag z
mag-quot (pos n) g = div-le_self n g
mag-quot (negsuc n) g = by (suc n / g) (div-le_self (suc n) g)
  where
    by : (q : ℕ) → q ≤ suc n → mag (neg_ℤ (pos q)) ≤ n
    by zero h = omega arith
    by (suc q) h = omega arith

pub fits-quot : (z : ℤ) (g : ℕ) → SFits w64 z → SFits w64 (quot_z z (pos g))
fits-quot z g f = record { sfits = lt_of_le_of_lt (mag-quot z g) f.sfits }

-- ---- amounts, by both ends of their range
module _ (z : ℤ) where
  pub range-above : le_z (neg_ℤ (pos limit.amount)) z ≡ true → le_z z (pos limit.amount) ≡ in_range z
  unfolding in_range
  range-above = by z
    where
      by : (z : ℤ) → le_z (neg_ℤ (pos limit.amount)) z ≡ true → le_z z (pos limit.amount) ≡ leb (nat_abs z) limit.amount
      by (pos n) e = refl
      by (negsuc n) e = sym (le-leb (suc n) limit.amount (omega (arith, leb-true n (limit.amount - 1) e)))

  pub range-below : le_z (neg_ℤ (pos limit.amount)) z ≡ false → false ≡ in_range z
  unfolding in_range
  range-below = by z
    where
      by : (z : ℤ) → le_z (neg_ℤ (pos limit.amount)) z ≡ false → false ≡ leb (nat_abs z) limit.amount
      by (pos n) e = absurd (subst T e tt)
      by (negsuc n) e = sym (lt-leb (suc n) limit.amount (omega (arith, leb-false n (limit.amount - 1) e)))
