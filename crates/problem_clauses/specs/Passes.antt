-- Values of one size one behind another: how many there are, and one pass of a loop over them, from the first on or from the last back.
use Rattle.std.specs.Prelude.{◌≡◌, refl, ◌∷◌, length}
use Rattle.std.proofs.Math.Path.{ap}
use Prim.Native.Nat.{ℕ, zero, suc, ◌+◌, ◌-◌, ◌<◌}
use native.Mathlib.Omega.{arith}
use Rattle.problem_scan.specs.Values.{values_at, behind}

pub length-values : {A : Type 0} (one : ℕ → A) (size k at : ℕ) → length (values_at one size k at) ≡ k
unfolding values_at
length-values one size zero at = refl
length-values one size (suc k) at = ap suc (length-values one size k (at + size))

module _ {A : Type 0} (one : ℕ → A) (size at left : ℕ) (more : 0 < left) where
  pub values-next : values_at one size left at ≡ one at ∷ values_at one size (left - 1) (at + size)
  unfolding values_at
  values-next = let e : left ≡ suc (left - 1) = omega arith in ap (λ (i : ℕ). values_at one size i at) e

pub behind-next : (size at left : ℕ) → 0 < left → behind size left at ≡ behind size (left - 1) (at + size)
unfolding behind
behind-next size at left more = let e : left ≡ suc (left - 1) = omega arith in ap (λ (i : ℕ). behind size i at) e
