-- Scans of rows from the front.
use Rattle.std.specs.Prelude.{◌≡◌, Bool, false, ℕ, ◌+◌, ◌≤◌, ◌<◌, ℤ}
use Rattle.std.proofs.Common.{sym, ap, ◌∙◌, arith, below_more, SFits, of_z, to_z, to_z-of_z}
use Rattle.std.specs.Int.{w64}
use Rattle.rules_types.specs.Limits as limit

-- the test has held at no place so far
pub record Scanned (t : ℕ → Bool) (i : ℕ) : Type 0 where
  pub within : i ≤ limit.rationals
  pub none : (k : ℕ) → k < i → t k ≡ false

module _ (t : ℕ → Bool) where
  pub scanned-start : Scanned t 0
  scanned-start = record { within = omega arith; none = λ k h. absurd (omega arith) }

  pub scanned-next : (i : ℕ) → Scanned t i → i < limit.rationals → t i ≡ false → Scanned t (i + 1)
  scanned-next i s h e = record { within = omega arith; none = below_more (λ k. t k ≡ false) i s.none e }

-- a test of a machine word, as a test of the number
pub told : (t : ℤ → Bool) (z : ℤ) {r : Bool} → SFits w64 z → r ≡ t (to_z w64 (of_z w64 z)) → t z ≡ r
told t z f e = ap t (sym (to_z-of_z f)) ∙ sym e
