-- Amounts that are all 0, by tests on their bytes.
use Rattle.std.specs.Prelude.{◌≡◌, refl, Bool, true, false, ◌&&◌, List, ℕ, zero, suc, ◌+◌, ◌-◌, ◌≤◌, ◌<◌, pos, eqb}
use Rattle.std.proofs.Math.Path.{sym, ap}
use Rattle.std.proofs.Common.{◌∙◌, ⊎_elim, eq-zero-or-pos, eq-eqb, ne_eqb}
use native.Mathlib.Omega.{arith}
use Rattle.rules.specs.Lists.{all}
use Rattle.rules.specs.Bytes.{from_unsigned, field_at}
use Rattle.rules.specs.Arithmetic.{is_zero}
use Rattle.theory_bytes.specs.Amounts.{from_unsigned-low, from_unsigned-high}
use Rattle.problem_scan.specs.Values.{values_at, behind, behind-is, amount_at}
use Rattle.problem_clauses.specs.Passes.{values-next, behind-next}

is_zero-number : (n : ℕ) → is_zero (pos n) ≡ eqb n 0
unfolding is_zero
is_zero-number zero = refl
is_zero-number (suc n) = sym (ne_eqb (suc n) 0 (λ e. omega arith))

pub is_zero-field : (n : ℕ) → is_zero (from_unsigned n) ≡ eqb n 0
unfolding is_zero
is_zero-field n = ⊎_elim
    (λ k. rw (from_unsigned-high n (omega arith)) (sym (ne_eqb n 0 (λ e. omega arith))))
    (λ k. ap is_zero (from_unsigned-low n (omega arith)) ∙ is_zero-number n)
    (eq-zero-or-pos (2147483648 - n))

pub record Zeros (q : List ℕ) (from count at left : ℕ) : Type 0 where
  pub end : behind 4 left at ≡ behind 4 count from
  pub same : all is_zero (values_at (amount_at q) 4 left at) ≡ all is_zero (values_at (amount_at q) 4 count from)

module _ {q : List ℕ} {from count at left : ℕ} (run : Zeros q from count at left) where
  pub zeros-done : left ≤ 0 → true ≡ all is_zero (values_at (amount_at q) 4 count from)
  unfolding all values_at
  zeros-done h = let e : left ≡ 0 = omega arith in sym (ap (λ (i : ℕ). all is_zero (values_at (amount_at q) 4 i at)) e) ∙ run.same

  module _ (more : 0 < left) where
    pub zeros_within : at + 4 ≤ behind 4 count from
    zeros_within = omega (arith, run.end, behind-is 4 left at)

    first : all is_zero (values_at (amount_at q) 4 count from)
        ≡ (eqb (field_at at 4 q) 0 && all is_zero (values_at (amount_at q) 4 (left - 1) (at + 4)))
    unfolding all amount_at
    first = sym run.same ∙ ap (all is_zero) (values-next (amount_at q) 4 at left more)
        ∙ ap (λ (b : Bool). b && all is_zero (values_at (amount_at q) 4 (left - 1) (at + 4))) (is_zero-field (field_at at 4 q))

    pub zeros-stop : (field_at at 4 q ≡ 0 → ⊥) → false ≡ all is_zero (values_at (amount_at q) 4 count from)
    zeros-stop h = sym (first ∙ rw (ne_eqb (field_at at 4 q) 0 h))

    pub zeros-next : field_at at 4 q ≡ 0 → Zeros q from count (at + 4) (left - 1)
    zeros-next h =
        record {
          end = sym (behind-next 4 at left more) ∙ run.end;
          same = sym (first ∙ rw (eq-eqb (field_at at 4 q) 0 h));
        }
