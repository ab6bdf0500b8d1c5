-- What is not beyond is small, so a walk that stops at the first fraction beyond keeps to the range.
use Rattle.std.specs.Prelude.{◌≡◌, refl, Bool, true, false, ◌||◌, ℕ, ℤ, nat_abs, ltb}
use Rattle.std.proofs.Common.{arith, ltb-false, le-ltb}
use Rattle.rules_types.specs.Limits.{amount}
use Rattle.rules.specs.Values.{Fraction, quotient, beyond, Bound, absent, present, tighter, value}
use Rattle.theory_bounds.specs.Below.{Positive}
use Rattle.theory_bounds.specs.Arithmetic.{reduce-positive, quotient-has}
use Rattle.theory_bounds.specs.Tightest.{Each, tighter-has}
use Rattle.theory_bounds.specs.Value.{value-positive}
use Rattle.fractions.specs.Range.{Small, Within, Scaled}

neither : (a b : Bool) → a || b ≡ false → (a ≡ false) × (b ≡ false)
neither true b e = let z : ◌≡◌ {A = ℕ} 0 1 = cc in absurd (omega arith)
neither false b e = (refl, e)

-- ---- exactly what is not beyond is small
pub not_beyond : (x : Fraction) → Positive x → beyond x ≡ false → Small x
unfolding beyond
not_beyond x p e =
    let h = neither (ltb amount (nat_abs x.numerator)) (ltb amount x.denominator) e in
    record {
      numerator = ltb-false amount (nat_abs x.numerator) h.0;
      denominator = ltb-false amount x.denominator h.1;
      positive = p;
    }

pub small-not-beyond : (x : Fraction) → Small x → beyond x ≡ false
unfolding beyond
small-not-beyond x h = rw (le-ltb amount (nat_abs x.numerator) h.numerator, le-ltb amount x.denominator h.denominator)

-- ---- a gathered bound
pub quotient-small : (n a : ℤ) (d : ℕ) → Scaled n a d → beyond (quotient n a d) ≡ false → Small (quotient n a d)
quotient-small n a d h e = not_beyond (quotient n a d) (quotient-has Positive reduce-positive n a d h.nonzero h.positive) e

-- ---- the tightest bound so far
pub tighter-within : (before : Fraction → Fraction → Bool) (x : Fraction) (s : Bool) (B : Bound) → Small x → Within B
    → Within (tighter before x s B)
tighter-within before = tighter-has before (λ x s. Small x) (λ x y s t e f h k. k)

-- ---- the value between two bounds, whether they agree or not
within-positive : (B : Bound) → Within B → Each (λ x s. Positive x) B
within-positive absent h = tt
within-positive (present x s) h = h.positive

pub value-small : (L U : Bound) → Within L → Within U → beyond (value L U) ≡ false → Small (value L U)
value-small L U h k e = not_beyond (value L U) (value-positive L U (within-positive L h) (within-positive U k)) e
