-- The digits that io spells are the decimal of the definitions.
use Rattle.std.specs.Prelude.{◌≡◌, refl, Bool, true, false, [], ◌∷◌, ℕ, zero, suc, ◌+◌, ◌-◌, ◌/◌, ◌%◌, ◌^◌, ◌≤◌, ◌<◌, ℤ, pos, negsuc}
use Rattle.std.specs.Prelude.{nat_abs, T, ltb}
use Rattle.std.proofs.Common.{subst, arith, lt-ltb, le-ltb, ltb-true, ltb-false}
use Rattle.std.proofs.Math.Nat.{pow-succ', pow-le-pow_right}
use Rattle.std.specs.Int.Signed.{lt_z}
use Rattle.rules.specs.Print.{ascii, digits_within, decimal, signed_decimal}
use Rattle.io.specs.Digits.{hex_digit_ascii, last_digits, IsDigitCount}

spelled-digit : (n : ℕ) → n < 10 → hex_digit_ascii n ≡ 48 + n
spelled-digit n h = rw (lt-ltb n 10 h)

one-digit : (m n : ℕ) → n < 10 → digits_within m n ≡ (48 + n) ∷ []
unfolding digits_within
one-digit zero n h = refl
one-digit (suc m) n h = rw (lt-ltb n 10 h, digits_within)

power-positive : (k : ℕ) → 1 ≤ 10 ^ k
power-positive zero = omega arith
power-positive (suc k) = omega (arith, pow-succ' 10 k, power-positive k)

low : (k n : ℕ) → IsDigitCount 10 1 n (suc (suc k)) → 10 ^ suc k ≤ n
low k n f = let e : suc (suc k) - 1 ≡ suc k = omega arith in rw e at (f.2 (omega arith))

-- by the number of digits: the last one is the remainder by 10, and the others are the quotient's
spelled : (k m n : ℕ) → n ≤ m → IsDigitCount 10 1 n k → last_digits 10 k n ≡ digits_within m n
unfolding digits_within
spelled zero m n h f = absurd (omega (arith, f.0))
spelled (suc zero) m n h f =
    let l : n < 10 = omega (arith, f.1, pow-succ' 10 0) in
    let r : n % 10 ≡ n = omega arith in
    rw (r, spelled-digit n l, one-digit m n l)
spelled (suc (suc k)) zero n h f = absurd (omega (arith, low k n f, power-positive (suc k)))
spelled (suc (suc k)) (suc m) n h f =
    let g : 10 ≤ n = omega (arith, low k n f, power-positive k, pow-succ' 10 k) in
    let e : suc k - 1 ≡ k = omega arith in
    let q : IsDigitCount 10 1 (n / 10) (suc k) = (
      omega arith,
      omega (arith, f.1, pow-succ' 10 (suc k)),
      λ u. rw e (omega (arith, low k n f, pow-succ' 10 k)),
    ) in
    rw (le-ltb n 10 g, digits_within, spelled (suc k) m (n / 10) (omega arith) q, spelled-digit (n % 10) (omega arith))

pub decimal-digits : (k n : ℕ) → IsDigitCount 10 1 n k → last_digits 10 k n ≡ decimal n
unfolding decimal
decimal-digits k n f = spelled k n n (omega arith) f

-- a word of 64 bits has at most 20 digits
pub few-digits : (k n : ℕ) → n < 2 ^ 64 → IsDigitCount 10 1 n k → k ≤ 20
few-digits k n h f = by (ltb 20 k) refl
  where
    by : (b : Bool) → ltb 20 k ≡ b → k ≤ 20
    by true e =
        let l = ltb-true 20 k e in
        let g : 10 ^ 20 ≤ 10 ^ (k - 1) = pow-le-pow_right (omega arith) {i = 20} {j = k - 1} (omega arith) in
        absurd (omega (arith, f.2 (omega arith)))
    by false e = ltb-false 20 k e

-- ---- by the machine's sign
pub signed-positive : (z : ℤ) → lt_z z (pos 0) ≡ false → signed_decimal z ≡ decimal (nat_abs z)
unfolding signed_decimal
signed-positive (pos n) t = refl
signed-positive (negsuc n) t = absurd (subst T t tt)

pub signed-negative : (z : ℤ) → lt_z z (pos 0) ≡ true → signed_decimal z ≡ 45 ∷ decimal (nat_abs z)
unfolding signed_decimal ascii
signed-negative (pos n) t = absurd (omega (arith, ltb-true n 0 t))
signed-negative (negsuc n) t = refl
