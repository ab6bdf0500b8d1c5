-- 02, (iv): the variables that stand in a clause, gathered clause by clause.
use Rattle.std.specs.Prelude.{◌≡◌, refl, true, ◌↔◌, ◌⊎◌, ℕ, ◌-◌, ◌≤◌, ◌<◌, T, length}
use Rattle.std.proofs.Math.Path.{sym}
use Rattle.std.proofs.Common.{subst, ◌∙◌, inl, inr, length-set}
use Rattle.std.proofs.Math.Bool.{not}
use Rattle.std.proofs.Math.Logic.{⊎_elim, ⊎_map}
use mathlib.Core.List.{List, [], ◌∷◌}
use native.Mathlib.Omega.{arith}
use Rattle.rules_types.specs.Limits as limit
use Rattle.rules.specs.Problem.{Literal, Clause}
use Rattle.rules.specs.Lines.{Booleans, no_booleans, including}
use Rattle.rules.specs.Model.{occurs, is_open}
use Rattle.theory_lists.specs.Tests.{tests_agree}
use Rattle.theory_lists.specs.All.{All, Any, all_map}
use Rattle.theory_resolution.specs.Members.{has, including-has, none_has}
use Rattle.theory_splitting.specs.WellFormed.{WellFormedClause}
use Rattle.theory_splitting.specs.Normalized.{has-including, including-keeps}
use Rattle.theory_splitting.specs.Occurs.{Stands, occurs-exactly}
use Rattle.theory_splitting.specs.WellRead.{read-well-formed}
use Rattle.masks.specs.Mask.{bits, outside, length-bits}
use Rattle.problem_scan.specs.declared.cursor.Sizes.{Sizes}
use Rattle.problem_scan.specs.Values.{clause_at, clause_end}
use Rattle.problem_clauses.specs.Literals.{with_variables}
use Rattle.problem_read.specs.Clauses.{clauses_at, clauses_end, clauses-next, ends_next, end-within}
use Rattle.problem_read.specs.Parsed.{all_clauses, last_end, problem_at}
use Rattle.problem_read.specs.Readable.{Readable}

-- ---- a set with those of literals, and with those of clauses
unfoldable pub with_clauses : List Clause → Booleans → Booleans
with_clauses [] s = s
with_clauses (c ∷ cs) s = with_clauses cs (with_variables c.literals s)

length-variables : (ls : List Literal) (s : Booleans) → length (with_variables ls s) ≡ length s
unfolding with_variables including
length-variables [] s = refl
length-variables (l ∷ ls) s = length-variables ls (including l.boolean s) ∙ length-set s l.boolean true

-- what one step puts in, behind what the others do
step : {X Y A B Z : Type 0} → X ↔ (B ⊎ Y) → Y ↔ (A ⊎ Z) → X ↔ ((A ⊎ B) ⊎ Z)
step f g = (
  λ x. ⊎_elim (λ b. inl (inr b)) (λ y. ⊎_map inl (λ z. z) (g.0 y)) (f.0 x),
  ⊎_elim (⊎_elim (λ a. f.1 (inr (g.1 (inl a)))) (λ b. f.1 (inl b))) (λ z. f.1 (inr (g.1 (inr z)))),
)

module _ (i : ℕ) where
  variable-has : (k : ℕ) (s : Booleans) → k < length s → T (has (including k s) i) ↔ ((k ≡ i) ⊎ T (has s i))
  variable-has k s h = (
    λ t. ⊎_map sym (λ u. u) (including-has k s i t),
    ⊎_elim (λ e. subst (λ (j : ℕ). T (has (including k s) j)) e (has-including k s h)) (including-keeps k s i),
  )

  variables-has : (ls : List Literal) (s : Booleans) → All (λ l. l.boolean < length s) ls
      → T (has (with_variables ls s) i) ↔ (Any (λ l. l.boolean ≡ i) ls ⊎ T (has s i))
  unfolding with_variables including
  variables-has [] s h = (inr, ⊎_elim (λ n. absurd n) (λ t. t))
  variables-has (l ∷ ls) s h =
      let k = l.boolean in
      step (variables-has ls (including k s) (all_map _ _ ls (λ l n. rw (length-set s k true) n) h.1)) (variable-has k s h.0)

  clauses-has : (b r : ℕ) (cs : List Clause) (s : Booleans) → b ≤ length s → All (WellFormedClause b r) cs
      → T (has (with_clauses cs s) i) ↔ (Stands i cs ⊎ T (has s i))
  unfolding with_clauses
  clauses-has b r [] s h w = (inr, ⊎_elim (λ n. absurd n) (λ t. t))
  clauses-has b r (c ∷ cs) s h w =
      let ls = c.literals in
      step (clauses-has b r cs (with_variables ls s) (omega (arith, length-variables ls s)) w.1)
      (variables-has ls s (all_map _ _ ls (λ l n. omega arith) w.0.literals))

-- ---- the loop: of all clauses, `left` are left, from `at` on, and the variables of those before them are gathered
pub record Gathering (q : List ℕ) (sizes : Sizes) (at left mask : ℕ) : Type 0 where
  pub end : clauses_end q sizes.rationals left at ≡ last_end q sizes
  pub same : with_clauses (clauses_at q sizes.rationals left at) (bits limit.all_booleans mask)
      ≡ with_clauses (all_clauses q sizes) (bits limit.all_booleans 0)

module _ {q : List ℕ} {sizes : Sizes} (given : Readable q sizes) {at left mask : ℕ} (run : Gathering q sizes at left mask) where
  abbrev r : ℕ
  r = sizes.rationals

  -- so the mask has those that are not open
  pub gathering-done : left ≤ 0 → outside mask ≡ is_open (problem_at q sizes)
  unfolding outside is_open with_clauses clauses_at bits no_booleans
  gathering-done h = λ k i. not (has-exactly i k)
    where
      gathered : bits limit.all_booleans mask ≡ with_clauses (all_clauses q sizes) (bits limit.all_booleans 0)
      gathered = let e : left ≡ 0 = omega arith in rw e at run.same

      has-exactly : (i : ℕ) → has (bits limit.all_booleans mask) i ≡ occurs i (all_clauses q sizes)
      has-exactly i =
          let w = read-well-formed q (problem_at q sizes) given.is_read in
          let cs = all_clauses q sizes in
          let stands = occurs-exactly i cs in
          let c = clauses-has i sizes.booleans r cs (bits limit.all_booleans 0)
          (omega (arith, w.booleans, length-bits limit.all_booleans 0)) w.clauses in
          tests_agree (has (bits limit.all_booleans mask) i) (occurs i cs)
          (λ t. stands.1 (⊎_elim (λ x. x) (λ n. absurd (none_has i n)) (c.0 (subst (λ (s : Booleans). T (has s i)) gathered t))))
          (λ t. subst (λ (s : Booleans). T (has s i)) (sym gathered) (c.1 (inl (stands.0 t))))

  module _ (more : 0 < left) where
    -- the clause at hand ends in the slice
    pub gathering-within : clause_end q r at ≤ length q
    gathering-within = omega (arith, end-within q r left at more, run.end, given.parsed.within)

    pub gathering-next : (m : ℕ)
        → bits limit.all_booleans m ≡ with_variables (clause_at q r at).literals (bits limit.all_booleans mask)
        → Gathering q sizes (clause_end q r at) (left - 1) m
    unfolding with_clauses
    gathering-next m e =
        record {
          end = sym (ends_next q r left at more) ∙ run.end;
          same = rw e (rw (clauses-next q r left at more) at run.same);
        }
