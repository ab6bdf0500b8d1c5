-- 64 bits are enough: what is reduced for small fractions stays below 2^63.
use Rattle.std.specs.Prelude.{◌≡◌, List, ℕ, ◌*◌, ◌≤◌, ◌<◌, ℤ, pos, neg_ℤ, nat_abs, ◌+ℤ◌, ◌*ℤ◌, length, get_or, set}
use Rattle.std.proofs.Common.{mul-le-mul, mul-pos, le_trans, arith}
use Rattle.std.proofs.Math.Nat.{le_of_dvd}
use Rattle.rules_types.specs.Limits.{amount, rationals}
use Rattle.theory_integers.specs.Size.{abs_neg, abs-+-≤, abs-minus-≤, abs-*-≤}
use Rattle.rules.specs.Arithmetic.{gcd, sum}
use Rattle.rules.specs.Values.{Fraction}
use Rattle.theory_vectors.specs.Gcd.{gcd-positiveʳ, gcd-dvdʳ}
use Rattle.theory_vectors.specs.Dot.{abs-sum-without}
use Rattle.theory_bounds.specs.Meets.{rest}
use Rattle.fractions.specs.Range.{word, Small, Ratio, Scaled}

-- a crossed product is at most 10^18
pub cross-≤ : (n : ℤ) (d : ℕ) → nat_abs n ≤ amount → d ≤ amount → nat_abs (n *ℤ pos d) ≤ amount * amount
cross-≤ n d h k = abs-*-≤ n (pos d) h k

-- ---- the midpoint of p / q and s / t: p × t + s × q and 2 × q × t are at most 2 × 10^18
pub midpoint-numerator-≤ : (x y : Fraction) → Small x → Small y
    → nat_abs (x.numerator *ℤ pos y.denominator +ℤ y.numerator *ℤ pos x.denominator) ≤ 2 * (amount * amount)
midpoint-numerator-≤ x y h k =
    let a = cross-≤ x.numerator y.denominator h.numerator k.denominator in
    let b = cross-≤ y.numerator x.denominator k.numerator h.denominator in
    omega (arith, abs-+-≤ (x.numerator *ℤ pos y.denominator) (y.numerator *ℤ pos x.denominator) a b)

pub midpoint-denominator-≤ : (x y : Fraction) → Small x → Small y → 2 * (x.denominator * y.denominator) ≤ 2 * (amount * amount)
midpoint-denominator-≤ x y h k = omega (arith, mul-le-mul h.denominator k.denominator)

pub midpoint-ratio : (x y : Fraction) → Small x → Small y
    → Ratio (x.numerator *ℤ pos y.denominator +ℤ y.numerator *ℤ pos x.denominator) (2 * (x.denominator * y.denominator))
midpoint-ratio x y h k =
    record {
      numerator = omega (arith, midpoint-numerator-≤ x y h k);
      denominator = omega (arith, midpoint-denominator-≤ x y h k);
      positive = mul-pos (omega arith) (mul-pos h.positive k.positive);
    }

-- ---- one more or one less: at most 2 × 10^9
pub plus-ratio : (x : Fraction) (z : ℤ) → Small x → nat_abs z ≤ 1 → Ratio (x.numerator +ℤ z *ℤ pos x.denominator) x.denominator
plus-ratio x z h k =
    record {
      numerator = omega (
        arith,
        abs-+-≤ x.numerator (z *ℤ pos x.denominator) h.numerator (abs-*-≤ z (pos x.denominator) k h.denominator),
      );
      denominator = omega (arith, h.denominator);
      positive = h.positive;
    }

-- ---- a gathered bound: at most 8 × 10^18 over 10^18
-- the bound over the common denominator, less seven terms
pub gathered-≤ : (i : ℕ) (cs : List ℤ) (β : ℤ) (x : ℕ → ℤ) (d : ℕ) → length cs ≡ rationals → i < rationals
    → ((j : ℕ) → nat_abs (get_or cs j (pos 0)) ≤ amount) → nat_abs β ≤ amount → ((j : ℕ) → nat_abs (x j) ≤ amount) → d ≤ amount
    → nat_abs (rest i cs β x d) ≤ 8 * (amount * amount)
gathered-≤ i cs β x d l z h b k e =
    let s = abs-sum-without 7 cs i x amount amount l (omega arith) h k in
    omega (arith, abs-minus-≤ (β *ℤ pos d) (sum (set cs i (pos 0)) x) (cross-≤ β d b e) s)

pub scaled-ratio : (n a : ℤ) (d : ℕ) → Scaled n a d → Ratio n (nat_abs a * d)
scaled-ratio n a d h =
    record {
      numerator = omega (arith, h.numerator);
      denominator = omega (arith, mul-le-mul h.coefficient h.denominator);
      positive = mul-pos h.nonzero h.positive;
    }

pub scaled-neg : (n a : ℤ) (d : ℕ) → Scaled n a d → Scaled (neg_ℤ n) a d
scaled-neg n a d h =
    record {
      numerator = rw (abs_neg n) h.numerator;
      nonzero = h.nonzero;
      coefficient = h.coefficient;
      positive = h.positive;
      denominator = h.denominator;
    }

-- ---- what a ratio is reduced by
pub divisor-positive : (n : ℤ) (d : ℕ) → Ratio n d → 0 < gcd (nat_abs n) d
divisor-positive n d h = gcd-positiveʳ (nat_abs n) d h.positive

pub divisor-≤ : (n : ℤ) (d : ℕ) → Ratio n d → gcd (nat_abs n) d ≤ word
divisor-≤ n d h = le_trans (le_of_dvd h.positive (gcd-dvdʳ (nat_abs n) d)) h.denominator
