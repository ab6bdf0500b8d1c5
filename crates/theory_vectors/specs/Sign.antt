-- The tests of an integer's sign, and of equality, decide what they say.
use Rattle.std.specs.Prelude.{◌≡◌, refl, not, ◌⊎◌, ℕ, zero, suc, ◌<◌, ℤ, pos, negsuc, neg_ℤ, nat_abs, ◌<ℤ◌, T}
use Rattle.std.proofs.Common.{sym, ap, ◌∙◌, subst, inl, inr, arith, eqb→eq}
use Rattle.std.specs.Int.{◌∣◌}
use Rattle.std.specs.Int.Signed.{quot_z}
use Rattle.std.proofs.Math.Dec.{eqb_refl}
use Rattle.theory_integers.specs.Natural.{0<pos-suc, negsuc<0, pos-mono-<, pos-cancel-<}
use Rattle.theory_integers.specs.Product.{*-positive, *-monoˡ-<}
use Rattle.theory_integers.specs.Ring.{*-zeroʳ}
use Rattle.theory_integers.specs.Quotient.{*-quot, quot-zero, quot-positive, quot-negative}
use Rattle.theory_lists.specs.Tests.{tests_agree}
use Rattle.rules.specs.Arithmetic.{is_positive, is_negative, is_zero, equal}

-- ---- positive
pub positive-yes : (z : ℤ) → T (is_positive z) → pos 0 <ℤ z
unfolding is_positive
positive-yes (pos zero) h = absurd h
positive-yes (pos (suc n)) h = 0<pos-suc n
positive-yes (negsuc n) h = absurd h

pub yes-positive : {z : ℤ} → pos 0 <ℤ z → T (is_positive z)
unfolding is_positive
yes-positive {z = pos zero} h = absurd h.lt
yes-positive {z = pos (suc n)} h = tt
yes-positive {z = negsuc n} h = absurd h.lt

pub positive-is : (z : ℤ) → T (is_positive z) → z ≡ pos (nat_abs z)
unfolding is_positive
positive-is (pos n) h = refl
positive-is (negsuc n) h = absurd h

-- ---- negative
pub negative-yes : (z : ℤ) → T (is_negative z) → z <ℤ pos 0
unfolding is_negative
negative-yes (pos n) h = absurd h
negative-yes (negsuc n) h = negsuc<0 n

pub yes-negative : {z : ℤ} → z <ℤ pos 0 → T (is_negative z)
unfolding is_negative
yes-negative {z = pos n} h = absurd (omega (arith, pos-cancel-< h))
yes-negative {z = negsuc n} h = tt

pub negative-is : (z : ℤ) → T (is_negative z) → z ≡ neg_ℤ (pos (nat_abs z))
unfolding is_negative
negative-is (pos n) h = absurd h
negative-is (negsuc n) h = refl

-- ---- zero
pub zero-yes : (z : ℤ) → T (is_zero z) → z ≡ pos 0
unfolding is_zero
zero-yes (pos zero) h = refl
zero-yes (pos (suc n)) h = absurd h
zero-yes (negsuc n) h = absurd h

pub yes-zero : {z : ℤ} → z ≡ pos 0 → T (is_zero z)
unfolding is_zero
yes-zero e = subst (λ (y : ℤ). T (is_zero y)) (sym e) tt

-- ---- one of the three
pub sign : (z : ℤ) → T (is_zero z) ⊎ (T (is_positive z) ⊎ T (is_negative z))
unfolding is_zero is_positive is_negative
sign (pos zero) = inl tt
sign (pos (suc n)) = inr (inl tt)
sign (negsuc n) = inr (inr tt)

pub nonzero-sign : (z : ℤ) → T (not (is_zero z)) → T (is_positive z) ⊎ T (is_negative z)
unfolding is_zero is_positive is_negative
nonzero-sign (pos zero) h = absurd h
nonzero-sign (pos (suc n)) h = inl tt
nonzero-sign (negsuc n) h = inr tt

-- and not two of them
pub one-sign : (z : ℤ) → T (is_positive z) → T (is_negative z) → ⊥
unfolding is_positive is_negative
one-sign (pos zero) h k = h
one-sign (pos (suc n)) h k = k
one-sign (negsuc n) h k = h

-- the size is positive exactly for what is not zero
pub 0<abs-positive : (z : ℤ) → T (is_positive z) → 0 < nat_abs z
unfolding is_positive
0<abs-positive (pos zero) h = absurd h
0<abs-positive (pos (suc n)) h = omega arith
0<abs-positive (negsuc n) h = omega arith

pub 0<abs-negative : (z : ℤ) → T (is_negative z) → 0 < nat_abs z
unfolding is_negative
0<abs-negative (pos n) h = absurd h
0<abs-negative (negsuc n) h = omega arith

pub 0<abs-nonzero : (z : ℤ) → T (not (is_zero z)) → 0 < nat_abs z
unfolding is_zero
0<abs-nonzero (pos zero) h = absurd h
0<abs-nonzero (pos (suc n)) h = omega arith
0<abs-nonzero (negsuc n) h = omega arith

pub nonzero-0<abs : (z : ℤ) → 0 < nat_abs z → T (not (is_zero z))
unfolding is_zero
nonzero-0<abs (pos zero) h = absurd (omega arith)
nonzero-0<abs (pos (suc n)) h = tt
nonzero-0<abs (negsuc n) h = tt

-- ---- equality
pub equal-yes : (a b : ℤ) → T (equal a b) → a ≡ b
unfolding equal
equal-yes (pos a) (pos b) h = ap pos (eqb→eq a b h)
equal-yes (pos a) (negsuc b) h = absurd h
equal-yes (negsuc a) (pos b) h = absurd h
equal-yes (negsuc a) (negsuc b) h = ap negsuc (eqb→eq a b h)

pub equal-refl : (a : ℤ) → T (equal a a)
unfolding equal
equal-refl (pos a) = eqb_refl a
equal-refl (negsuc a) = eqb_refl a

pub yes-equal : {a b : ℤ} → a ≡ b → T (equal a b)
yes-equal {a} e = subst (λ (c : ℤ). T (equal a c)) e (equal-refl a)

-- ---- an exact quotient has its dividend's sign
module _ (g : ℕ) (z : ℤ) (p : 0 < g) (d : g ∣ nat_abs z) where
  abbrev q : ℤ
  q = quot_z z (pos g)

  pub is_positive-quot : is_positive q ≡ is_positive z
  is_positive-quot =
      tests_agree (is_positive q) (is_positive z) (λ h. yes-positive (rw (*-quot g z d) at (*-positive (pos-mono-< p) (positive-yes q h))))
      (λ h. yes-positive (quot-positive g d (positive-yes z h)))

  pub is_negative-quot : is_negative q ≡ is_negative z
  is_negative-quot =
      tests_agree (is_negative q) (is_negative z)
      (λ h. yes-negative (rw (*-quot g z d, *-zeroʳ (pos g)) at (*-monoˡ-< (pos-mono-< p) (negative-yes q h))))
      (λ h. yes-negative (quot-negative g d (negative-yes z h)))

  pub is_zero-quot : is_zero q ≡ is_zero z
  is_zero-quot =
      tests_agree (is_zero q) (is_zero z) (λ h. yes-zero (sym (*-quot g z d) ∙ rw (zero-yes q h) (*-zeroʳ (pos g))))
      (λ h. yes-zero (rw (zero-yes z h) (quot-zero g)))
