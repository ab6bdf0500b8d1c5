-- A reduced fraction has no common divisor, so equal fractions have the same reduced form.
use Rattle.std.specs.Prelude.{◌≡◌, ℕ, ◌*◌, ◌<◌, ℤ, pos, nat_abs, ◌*ℤ◌}
use Rattle.std.proofs.Common.{sym, ap, ◌∙◌}
use Rattle.std.specs.Int.{◌∣◌}
use native.Mathlib.Nat.{dvd-mul_left, dvd_antisymm}
use Rattle.theory_integers.specs.Natural.{pos-mono-<}
use Rattle.theory_integers.specs.Product.{*-cancelʳ-≡}
use Rattle.theory_integers.specs.Quotient.{abs-quot}
use Rattle.theory_integers.specs.Size.{abs-*}
use Rattle.theory_integers.specs.Order.{≤-antisym}
use Rattle.rules.specs.Arithmetic.{gcd}
use Rattle.theory_vectors.specs.Gcd.{gcd-comm, gcd-positiveʳ, gcd-quotients, coprime-dvd}
use Rattle.rules.specs.Values.{Fraction, reduce}
use Rattle.theory_bounds.specs.Below.{Same, same-sym, same-trans}
use Rattle.theory_bounds.specs.Arithmetic.{over, reduce-same}

abbrev pub Coprime : Fraction → Type 0
Coprime x = gcd (nat_abs x.numerator) x.denominator ≡ 1

pub reduce-coprime : (n : ℤ) (d : ℕ) → 0 < d → Coprime (reduce n d)
unfolding reduce
reduce-coprime n d p = rw (abs-quot (gcd (nat_abs n) d) n) (gcd-quotients (nat_abs n) d (gcd-positiveʳ (nat_abs n) d p))

-- ---- of two equal fractions without a common divisor each denominator divides the other
divides : (x y : Fraction) → Coprime x → x.numerator *ℤ pos y.denominator ≡ y.numerator *ℤ pos x.denominator
    → x.denominator ∣ y.denominator
divides x y c e =
    let n = nat_abs x.numerator in
    let m = nat_abs y.numerator in
    let f : y.denominator * n ≡ m * x.denominator = native.Mathlib.Nat.mul_comm y.denominator n
    ∙ sym (abs-* x.numerator (pos y.denominator)) ∙ ap nat_abs e ∙ abs-* y.numerator (pos x.denominator) in
    coprime-dvd x.denominator n y.denominator (gcd-comm x.denominator n ∙ c) (rw f (dvd-mul_left x.denominator m))

pub coprime-unique : (x y : Fraction) → Coprime x → Coprime y → Same x y → x ≡ y
coprime-unique x y c c' s =
    let e : x.numerator *ℤ pos y.denominator ≡ y.numerator *ℤ pos x.denominator = ≤-antisym s.up.by.by s.down.by.by in
    let f : x.denominator ≡ y.denominator = dvd_antisymm (divides x y c e) (divides y x c' (sym e)) in
    let g : x.numerator ≡ y.numerator = *-cancelʳ-≡ x.numerator y.numerator (pos-mono-< s.up.right) (rw f at e) in
    λ i. record { numerator = g i; denominator = f i }

pub reduce-unique : (n m : ℤ) (d e : ℕ) → Same (over n d) (over m e) → reduce n d ≡ reduce m e
reduce-unique n m d e s =
    let a = reduce-same n d s.up.left in
    let b = reduce-same m e s.up.right in
    coprime-unique (reduce n d) (reduce m e) (reduce-coprime n d s.up.left) (reduce-coprime m e s.up.right)
    (same-trans (same-sym a) (same-trans s b))
