-- Several by a loop that counts down: what is seen from here on is what was to be seen at the start.
use Rattle.std.specs.Prelude.{◌≡◌, refl, Bool, ◌||◌, List, ◌∷◌, ℕ, suc, ◌-◌, ◌≤◌, ◌<◌, length, drop}
use Rattle.std.proofs.Math.Path.{sym}
use Rattle.std.proofs.Common.{subst, ◌∙◌, arith}
use Rattle.rules_types.specs.declared.answers.Refusal.{Refusal}
use Rattle.rules.specs.Problem.{Reader, after, repeat, is_equality, comparison, comparisons}
use Rattle.problem_scan.specs.declared.cursor.Cursor.{Cursor}
use Rattle.problem_scan.specs.declared.cursor.Cursor.TheVariants.{Next, Fault}
use Rattle.problem_scan.specs.Seen.{seen, seen-fault, seen-map}
use Rattle.problem_scan.specs.Valued.{Valued, joined, seen-valued}

-- what is left to read, from `at` on, is seen as `whole`
pub record Run {A : Type 0} (q : List ℕ) (whole : Cursor) (left : Reader A) (at : ℕ) : Type 0 where
  pub within : at ≤ length q
  pub same : seen (left (drop at q) at) ≡ whole

pub run-start : {A : Type 0} (q : List ℕ) (all : Reader A) (from : ℕ) → from ≤ length q → Run q (seen (all (drop from q) from)) all from
run-start q all from h = record { within = h; same = refl }

-- ---- one, then the others: the cursor w that the one gave is a fault, or goes on
module _ {A : Type 0} {q : List ℕ} {whole : Cursor} (one : Reader A) (others : A → Reader (List A)) {at : ℕ}
    (run : Run q whole (joined one others) at) {w : Cursor} (given : w ≡ seen (one (drop at q) at)) where
  pub run-stop : (f : Refusal) (p : ℕ) → w ≡ Fault f p → w ≡ whole
  run-stop f p e = e ∙ sym (seen-fault (one (drop at q) at) _ f p (sym given ∙ e)) ∙ run.same

  pub run-next : {v : A} {S : Type 0} {n : ℕ} → Valued q v S n (one (drop at q) at) → (m : ℕ) → w ≡ Next m → Run q whole (others v) m
  unfolding after
  run-next {v} d m e =
      let s = seen-valued d m (sym given ∙ e) in
      record {
        within = s.1;
        same = sym (seen-map (others v (drop m q) m) (λ xs. v ∷ xs)) ∙ (rw s.0 at run.same);
      }

-- ---- counted down
module _ {A : Type 0} {q : List ℕ} {whole : Cursor} (many : ℕ → Reader (List A)) (left : ℕ) {at : ℕ} (run : Run q whole (many left) at)
  where
    more : 0 < left → Run q whole (many (suc (left - 1))) at
    more h = let e : left ≡ suc (left - 1) = omega arith in subst (λ (k : ℕ). Run q whole (many k) at) e run

    none : left ≤ 0 → Run q whole (many 0) at
    none h = let e : left ≡ 0 = omega arith in subst (λ (k : ℕ). Run q whole (many k) at) e run

module _ {A : Type 0} {q : List ℕ} {whole : Cursor} (one : Reader A) (left : ℕ) {at : ℕ} (run : Run q whole (repeat left one) at) where
  pub repeat-more : 0 < left → Run q whole (joined one (λ x. repeat (left - 1) one)) at
  unfolding repeat
  repeat-more h = more (λ k. repeat k one) left run h

  pub repeat-done : left ≤ 0 → Next at ≡ whole
  unfolding repeat seen
  repeat-done h = (none (λ k. repeat k one) left run h).same

module _ {q : List ℕ} {whole : Cursor} (r : ℕ) (equated : Bool) (left : ℕ) {at : ℕ} (run : Run q whole (comparisons left equated r) at)
  where
    pub comparisons-more : 0 < left
        → Run q whole (joined (comparison equated r) (λ c. comparisons (left - 1) (equated || is_equality c.relation) r)) at
    unfolding comparisons
    comparisons-more h = more (λ k. comparisons k equated r) left run h

    pub comparisons-done : left ≤ 0 → Next at ≡ whole
    unfolding comparisons seen
    comparisons-done h = (none (λ k. comparisons k equated r) left run h).same
