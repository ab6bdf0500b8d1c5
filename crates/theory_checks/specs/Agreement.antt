-- Whether a clause holds depends only on the variables that stand in it: of two assignments that agree on the problem's, but for the open
-- ones, the check says the same.
use Rattle.std.proofs.Math.Path.{◌≡◌, refl}
use Rattle.std.proofs.Common.{sym, ap, ◌∙◌, ⊎_elim, ltb→lt, nltb→le}
use Rattle.std.specs.Prelude.{Bool, ℕ, suc, ◌≤◌, ◌<◌, ℤ, pos, ◌*ℤ◌, ltb, get_or}
use Rattle.std.proofs.Math.Bool.{true, false}
use mathlib.Core.List.{List, [], ◌∷◌}
use Rattle.std.proofs.Math.IntN.{zero-*ℤ}
use Rattle.rules_types.specs.declared.answers.Checked.{Checked}
use Rattle.rules_types.specs.declared.answers.Checked.TheVariants.{Fails}
use Rattle.rules.specs.Arithmetic.{sum}
use Rattle.rules.specs.Problem.{Literal, Comparison, Clause}
use Rattle.rules.specs.Meaning.{Assignment, literal_holds, comparison_holds, clause_holds}
use Rattle.rules.specs.Checker.{check_clauses}
use Rattle.theory_lists.specs.Tests.{split}
use Rattle.theory_lists.specs.All.{All, all_map, all_both, any-agree}
use Rattle.theory_vectors.specs.Dot.{sum-terms}
use Rattle.theory_splitting.specs.WellFormed.{WellFormedComparison, WellFormedClause}

-- on b Boolean variables that are not open, r rational ones and the denominator
pub record Agree (b r : ℕ) (opens : ℕ → Bool) (χ ξ : Assignment) : Type 0 where
  pub booleans : (i : ℕ) → i < b → opens i ≡ false → χ.booleans i ≡ ξ.booleans i
  pub numerators : (f : ℕ) → f < r → χ.numerators f ≡ ξ.numerators f
  pub denominator : χ.denominator ≡ ξ.denominator

-- the literals of a clause are not open
abbrev pub Closed : (ℕ → Bool) → Clause → Type 0
Closed opens c = All (λ l. opens l.boolean ≡ false) c.literals

module _ (b r : ℕ) (opens : ℕ → Bool) (χ ξ : Assignment) (agree : Agree b r opens χ ξ) where
  literal-agrees : (l : Literal) → (l.boolean < b) × (opens l.boolean ≡ false) → literal_holds χ l ≡ literal_holds ξ l
  unfolding literal_holds
  literal-agrees l h = rw (agree.booleans l.boolean h.0 h.1)

  sums-agree : (c : Comparison) → WellFormedComparison r c → sum c.coefficients χ.numerators ≡ sum c.coefficients ξ.numerators
  sums-agree c w = sum-terms cs cs χ.numerators ξ.numerators
      (λ i. ⊎_elim (λ h. below i (ltb→lt i r h)) (λ h. beyond i (nltb→le i r h)) (split (ltb i r)))
    where
      cs : List ℤ
      cs = c.coefficients

      below : (i : ℕ) → i < r → get_or cs i (pos 0) *ℤ χ.numerators i ≡ get_or cs i (pos 0) *ℤ ξ.numerators i
      below i h = ap (λ (y : ℤ). get_or cs i (pos 0) *ℤ y) (agree.numerators i h)

      beyond : (i : ℕ) → r ≤ i → get_or cs i (pos 0) *ℤ χ.numerators i ≡ get_or cs i (pos 0) *ℤ ξ.numerators i
      beyond i h = rw (w.beyond i h) (zero-*ℤ (χ.numerators i) ∙ sym (zero-*ℤ (ξ.numerators i)))

  comparison-agrees : (c : Comparison) → WellFormedComparison r c → comparison_holds χ c ≡ comparison_holds ξ c
  unfolding comparison_holds
  comparison-agrees c w = rw (sums-agree c w, agree.denominator)

  clause-agrees : (c : Clause) → WellFormedClause b r c → Closed opens c → clause_holds χ c ≡ clause_holds ξ c
  unfolding clause_holds
  clause-agrees c w o =
      rw (
        any-agree (literal_holds χ) (literal_holds ξ) c.literals
            (all_map _ (λ l. literal_holds χ l ≡ literal_holds ξ l) c.literals literal-agrees
            (all_both (λ l. l.boolean < b) (λ l. opens l.boolean ≡ false) c.literals w.literals o)),
        any-agree (comparison_holds χ) (comparison_holds ξ) c.comparisons
            (all_map (WellFormedComparison r) (λ k. comparison_holds χ k ≡ comparison_holds ξ k) c.comparisons
            comparison-agrees w.comparisons),
      )

  -- so the check of the clauses comes to the same
  pub checks-agree : (k : ℕ) (cs : List Clause) → All (WellFormedClause b r) cs → All (Closed opens) cs
      → check_clauses χ k cs ≡ check_clauses ξ k cs
  unfolding check_clauses
  checks-agree k [] w o = refl
  checks-agree k (c ∷ cs) w o =
      rw (clause-agrees c w.0 o.0, check_clauses) (by (clause_holds ξ c) (checks-agree (suc k) cs w.1 o.1))
    where
      by : (t : Bool) → check_clauses χ (suc k) cs ≡ check_clauses ξ (suc k) cs
          → ◌≡◌ {A = Checked} (elim t [ true ↦ check_clauses χ (suc k) cs | false ↦ Fails k ])
          (elim t [ true ↦ check_clauses ξ (suc k) cs | false ↦ Fails k ])
      by true e = e
      by false e = refl
