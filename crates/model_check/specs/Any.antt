-- Values of one size one behind another: what holds of each of them holds of the i-th, and whether some value passes a test.
use Rattle.std.specs.Prelude.{◌≡◌, Bool, true, false, ℕ, zero, suc, ◌+◌, ◌*◌, ◌-◌, ◌≤◌, ◌<◌}
use Rattle.std.proofs.Math.Path.{sym, ap}
use Rattle.std.proofs.Common.{◌∙◌, suc-mul, mul-le-mul, le_refl}
use native.Mathlib.Omega.{arith}
use Rattle.rules.specs.Lists.{any}
use Rattle.problem_scan.specs.Values.{values_at, behind, behind-is}
use Rattle.problem_scan.specs.Sound.{Each}
use Rattle.problem_clauses.specs.Passes.{values-next}

-- the i-th is within
pub value-within : (size from count i : ℕ) → i < count → from + i * size + size ≤ behind size count from
value-within size from count i more =
    let k : suc i ≤ count = omega arith in rw (behind-is size count from) (omega (arith, suc-mul i size, mul-le-mul k (le_refl size)))

pub each_at : (P : ℕ → Type 0) (size count from i : ℕ) → i < count → Each P size count from → P (from + i * size)
unfolding Each
each_at P size zero from i l e = absurd (omega arith)
each_at P size (suc k) from zero l e = let z : from + 0 * size ≡ from = omega arith in rw z e.0
each_at P size (suc k) from (suc i) l e =
    let z : from + suc i * size ≡ from + size + i * size = omega (arith, suc-mul i size) in
    rw z (each_at P size k (from + size) i (omega arith) e.1)

-- ---- a loop that asks whether some value passes a test: those from the i-th on decide
pub record Asking {A : Type 0} (test : A → Bool) (one : ℕ → A) (size from count i : ℕ) : Type 0 where
  pub same : any test (values_at one size (count - i) (from + i * size)) ≡ any test (values_at one size count from)

module _ {A : Type 0} {test : A → Bool} {one : ℕ → A} {size from count : ℕ} where
  pub asking_start : Asking test one size from count 0
  asking_start =
      let z : from + 0 * size ≡ from = omega arith in let n : count - 0 ≡ count = omega arith in record { same = rw (z, n) }

  module _ {i : ℕ} (run : Asking test one size from count i) where
    pub asking-done : count ≤ i → false ≡ any test (values_at one size count from)
    unfolding any values_at
    asking-done h =
        let e : count - i ≡ 0 = omega arith in sym (ap (λ (k : ℕ). any test (values_at one size k (from + i * size))) e) ∙ run.same

    module _ (more : i < count) (b : Bool) (given : b ≡ test (one (from + i * size))) where
      pub asking-passed : b ≡ true → true ≡ any test (values_at one size count from)
      unfolding any
      asking-passed e = sym (sym run.same ∙ ap (any test) (values-next one size (from + i * size) (count - i) (omega arith))
          ∙ rw (sym given ∙ e))

      pub asking-next : b ≡ false → Asking test one size from count (i + 1)
      unfolding any
      asking-next e =
          let p : from + (i + 1) * size ≡ from + i * size + size = omega (arith, suc-mul i size) in
          let q : count - (i + 1) ≡ count - i - 1 = omega arith in
          record {
            same = rw (p, q) (sym (sym run.same ∙ ap (any test) (values-next one size (from + i * size) (count - i) (omega arith))
                ∙ rw (sym given ∙ e)));
          }
