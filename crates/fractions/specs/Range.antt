-- The ranges of numbers that the functions ask for. They are sizes alone: no caller has to show more.
use Rattle.std.specs.Prelude.{ℕ, ◌≤◌, ◌<◌, ℤ, nat_abs}
use Rattle.rules_types.specs.Limits.{amount}
use Rattle.rules.specs.Values.{Fraction, Bound}
use Rattle.theory_bounds.specs.Tightest.{Each}

-- 9 × 10^18, which a signed word of 64 bits holds
abbrev pub word : ℕ
word = 9000000000000000000

-- numerator and denominator within the range of amounts
pub record Small (x : Fraction) : Type 0 where
  pub numerator : nat_abs x.numerator ≤ amount
  pub denominator : x.denominator ≤ amount
  pub positive : 0 < x.denominator

-- a bound is absent or small
abbrev pub Within : Bound → Type 0
Within B = Each (λ x s. Small x) B

-- n / d, to be reduced
pub record Ratio (n : ℤ) (d : ℕ) : Type 0 where
  pub numerator : nat_abs n ≤ word
  pub denominator : d ≤ word
  pub positive : 0 < d

-- n / (a × d), to be reduced: n is a bound and at most seven products, each of two amounts
pub record Scaled (n a : ℤ) (d : ℕ) : Type 0 where
  pub numerator : nat_abs n ≤ 8000000000000000000
  pub nonzero : 0 < nat_abs a
  pub coefficient : nat_abs a ≤ amount
  pub positive : 0 < d
  pub denominator : d ≤ amount
