-- The readings of the clause at a place, and whether there are two.
use Rattle.std.specs.Prelude.{◌≡◌, refl, Bool, true, false, ◌||◌, List, ◌∷◌, map, ℕ, zero, suc, ◌+◌, ◌-◌, ◌≤◌, ◌<◌, get_or}
use Rattle.std.proofs.Math.Path.{sym, ap}
use Rattle.std.proofs.Common.{◌∙◌}
use native.Mathlib.Omega.{arith}
use Rattle.rules_types.specs.Layout.{comparison_bytes}
use Rattle.rules.specs.Lists.{any}
use Rattle.rules.specs.Problem.{relation_of, is_equality}
use Rattle.rules.specs.Readings.{read_as, reading, has_equality}
use Rattle.problem_scan.specs.Values.{values_at, behind, behind-is, comparison_at, comparisons_at, constraints_at, count_of, clause_at}
use Rattle.problem_clauses.specs.Passes.{values-next, behind-next}

-- ---- what is read
map-values : {A B : Type 0} (f : A → B) (one : ℕ → A) (size k at : ℕ)
    → map f (values_at one size k at) ≡ values_at (λ i. f (one i)) size k at
unfolding values_at
map-values f one size zero at = refl
map-values {B} f one size (suc k) at = ap (λ (bs : List B). f (one at) ∷ bs) (map-values f one size k (at + size))

pub constraints-at : (q : List ℕ) (second : Bool) (r at : ℕ) → (reading second (clause_at q r at)).constraints
    ≡ constraints_at q second r (get_or q (count_of q at) 0) (count_of q at + 1)
unfolding reading clause_at
constraints-at q second r at =
    map-values (read_as second) (comparison_at q r) (comparison_bytes r) (get_or q (count_of q at) 0) (count_of q at + 1)

-- ---- the loop: whether an = is left is whether one is there
pub record Seeking (q : List ℕ) (r from count at left : ℕ) : Type 0 where
  pub end : behind (comparison_bytes r) left at ≡ behind (comparison_bytes r) count from
  pub same : has_equality (comparisons_at q r left at) ≡ has_equality (comparisons_at q r count from)

module _ {q : List ℕ} {r from count at left : ℕ} (run : Seeking q r from count at left) where
  pub seeking-done : left ≤ 0 → false ≡ has_equality (comparisons_at q r count from)
  unfolding has_equality any values_at
  seeking-done h = let e : left ≡ 0 = omega arith in sym (ap (λ (k : ℕ). has_equality (comparisons_at q r k at)) e) ∙ run.same

  module _ (more : 0 < left) where
    pub seeking-within : at + comparison_bytes r ≤ behind (comparison_bytes r) count from
    seeking-within = past (left - 1) (at + comparison_bytes r) (sym (behind-next (comparison_bytes r) at left more) ∙ run.end)
      where
        past : (k i : ℕ) → behind (comparison_bytes r) k i ≡ behind (comparison_bytes r) count from
            → i ≤ behind (comparison_bytes r) count from
        past k i e = omega (arith, e, behind-is (comparison_bytes r) k i)

    first : has_equality (comparisons_at q r count from)
        ≡ (is_equality (relation_of (get_or q at 0)) || has_equality (comparisons_at q r (left - 1) (at + comparison_bytes r)))
    unfolding has_equality any comparison_at
    first = sym run.same ∙ ap has_equality (values-next (comparison_at q r) (comparison_bytes r) at left more)

    pub seeking-found : is_equality (relation_of (get_or q at 0)) ≡ true → true ≡ has_equality (comparisons_at q r count from)
    seeking-found e = sym (first ∙ rw e)

    pub seeking-next : is_equality (relation_of (get_or q at 0)) ≡ false → Seeking q r from count (at + comparison_bytes r) (left - 1)
    seeking-next e =
        record {
          end = sym (behind-next (comparison_bytes r) at left more) ∙ run.end;
          same = sym (first ∙ rw e);
        }
