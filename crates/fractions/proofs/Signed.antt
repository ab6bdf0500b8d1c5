-- Signed needs, stated of plain integers, and what the bits of a word hold.
use mathlib.Core.Path.{◌≡◌}
use Prim.Native.Nat.{ℕ, ◌*◌, ◌^◌, ◌≤◌, ◌<◌}
use native.Mathlib.Nat.{lt_of_le_of_lt, mul-le-mul}
use native.Mathlib.Omega.{arith}
use lib.IntN.{ℤ, pos, neg_ℤ, nat_abs, ◌+ℤ◌, ◌-ℤ◌, ◌*ℤ◌}
use lib.Signed.{mag, quot_z}
use lib.Dec.{lit<}
use mir.Syntax.{w64}
use mir.Val.{Fits, SFits, to_z, of_z}
use mir.Facts.{to_z-of_z, to_z_pos}
use Rattle.rules_types.specs.Limits.{amount}
use Rattle.theory_integers.specs.Ring.{zero_minus}
use Rattle.theory_integers.specs.Size.{abs_neg, abs-+-≤}
use Rattle.theory_integers.specs.Quotient.{abs-quot-≤}
use Rattle.machine.specs.Signed.{fits-size}
use Rattle.fractions.specs.Range.{word}
use Rattle.fractions.specs.Enough.{cross-≤}

-- ---- what fits a signed word
pub product-fits : (n : ℤ) (d : ℕ) → nat_abs n ≤ amount → d ≤ amount → SFits w64 (n *ℤ pos d)
product-fits n d h k = fits-size (n *ℤ pos d) (omega (arith, cross-≤ n d h k))

pub sum_fits : (a b : ℤ) → nat_abs a ≤ amount * amount → nat_abs b ≤ amount * amount → SFits w64 (a +ℤ b)
sum_fits a b h k = fits-size (a +ℤ b) (omega (arith, abs-+-≤ a b h k))

pub quotient_fits : (n : ℤ) (g : ℕ) → nat_abs n ≤ word → SFits w64 (quot_z n (pos g))
quotient_fits n g h = fits-size (quot_z n (pos g)) (omega (arith, abs-quot-≤ g n))

pub negation-fits : (n : ℤ) → nat_abs n ≤ word → SFits w64 (neg_ℤ n)
negation-fits n h = fits-size (neg_ℤ n) (omega (arith, abs_neg n))

-- ---- what fits an unsigned one
pub denominators-fit : (d e : ℕ) → d ≤ amount → e ≤ amount → Fits w64 (d * e)
denominators-fit d e h k = record { fits = lt_of_le_of_lt (mul-le-mul h k) (lit< tt) }

pub twice-fits : (d e : ℕ) → d ≤ amount → e ≤ amount → Fits w64 (2 * (d * e))
twice-fits d e h k = record { fits = omega (arith, mul-le-mul h k) }

-- ---- a number read back from its bits
pub natural : (n : ℕ) → n ≤ word → to_z w64 n ≡ pos n
natural n h = to_z_pos w64 (omega arith)

pub denominator : (n : ℕ) → n ≤ amount → to_z w64 n ≡ pos n
denominator n h = natural n (omega arith)

pub same : (z : ℤ) → nat_abs z ≤ word → to_z w64 (of_z w64 z) ≡ z
same z h = to_z-of_z (fits-size z (omega arith))

pub ruleset signed = (product-fits, sum_fits, quotient_fits, negation-fits, zero_minus, denominators-fit, twice-fits, natural, denominator)

-- what a call returned, or a field, by the range that comes with it
pub returned : (z : ℤ) → mag z < 2 ^ 63 → to_z w64 (of_z w64 z) ≡ z
returned z h = to_z-of_z {w = w64} {z = z} (record { sfits = h })

-- a product of a numerator and a denominator
pub crossed : (n : ℤ) (d : ℕ) → nat_abs n ≤ amount → d ≤ amount → to_z w64 (of_z w64 (to_z w64 (of_z w64 n) *ℤ to_z w64 d)) ≡ n *ℤ pos d
crossed n d h k = rw (same n (omega arith), denominator d k) (to_z-of_z (product-fits n d h k))

-- the sum of two such
pub summed : (a b : ℤ) → nat_abs a ≤ amount * amount → nat_abs b ≤ amount * amount → to_z w64 (of_z w64 (a +ℤ b)) ≡ a +ℤ b
summed a b h k = to_z-of_z (sum_fits a b h k)

pub negated : (n : ℤ) → nat_abs n ≤ word → to_z w64 (of_z w64 (pos 0 -ℤ to_z w64 (of_z w64 n))) ≡ neg_ℤ n
negated n h = rw (same n h, zero_minus n) (to_z-of_z (negation-fits n h))
