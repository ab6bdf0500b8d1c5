-- The clauses that an edition adds, behind those that are written: the first that does not hold.
use Rattle.std.proofs.Math.Path.{◌≡◌, refl, sym, ap}
use Rattle.std.proofs.Common.{subst, ◌∙◌, ⊎_elim, eq-zero-or-pos, le-leb}
use Rattle.std.specs.Prelude.{Bool, ℤ, pos, negsuc}
use Rattle.std.proofs.Math.Bool.{true, false, not}
use mathlib.Core.List.{List, [], ◌∷◌, ◌++◌}
use Prim.Native.Nat.{ℕ, zero, suc, ◌+◌, ◌-◌, ◌≤◌, ◌<◌}
use native.Mathlib.Omega.{arith}
use Rattle.std.specs.Int.Signed.{le_z}
use Rattle.std.proofs.Math.ListN.{length, drop}
use Rattle.rules_types.specs.declared.answers.Refusal.{Refusal}
use Rattle.rules_types.specs.declared.answers.Checked.{Checked}
use Rattle.rules_types.specs.declared.answers.Checked.TheVariants.{Accepted, Fails, Refused}
use Rattle.rules_types.specs.declared.terms.Edition.{Edition}
use Rattle.rules_types.specs.Limits as limit
use Rattle.rules.specs.Lists.{tabulate}
use Rattle.rules.specs.Arithmetic.{is_negative}
use Rattle.rules.specs.Problem.{Clause, non_negative, added}
use Rattle.rules.specs.Meaning.{Assignment, clause_holds}
use Rattle.rules.specs.Checker.{check_clauses}
use Rattle.theory_lists.specs.Tabulated.{drop-tabulate, drop-tabulated}
use Rattle.theory_splitting.specs.Editions.{holds-added, added-tabulated}

-- ---- clauses in front of others
module _ (χ : Assignment) (ys : List Clause) where
  pub append-accepted : (k : ℕ) (xs : List Clause) → check_clauses χ k xs ≡ Accepted
      → check_clauses χ k (xs ++ ys) ≡ check_clauses χ (k + length xs) ys
  unfolding check_clauses
  append-accepted k [] e = let z : k ≡ k + 0 = omega arith in ap (λ (n : ℕ). check_clauses χ n ys) z
  append-accepted k (x ∷ xs) e = by (clause_holds χ x) (append-accepted (suc k) xs) e
    where
      by : (t : Bool) → (check_clauses χ (suc k) xs ≡ Accepted → check_clauses χ (suc k) (xs ++ ys) ≡ check_clauses χ
          (suc k + length xs) ys)
          → ◌≡◌ {A = Checked} (elim t [ true ↦ check_clauses χ (suc k) xs | false ↦ Fails k ]) Accepted
          → ◌≡◌ {A = Checked} (elim t [ true ↦ check_clauses χ (suc k) (xs ++ ys) | false ↦ Fails k ])
          (check_clauses χ (k + suc (length xs)) ys)
      by true r e = let z : suc k + length xs ≡ k + suc (length xs) = omega arith in r e ∙ ap (λ (n : ℕ). check_clauses χ n ys) z
      by false r e = let z : ◌≡◌ {A = ℕ} 0 1 = cc in absurd (omega arith)

  pub append-fails : (k : ℕ) (xs : List Clause) → (check_clauses χ k xs ≡ Accepted → ⊥)
      → check_clauses χ k (xs ++ ys) ≡ check_clauses χ k xs
  unfolding check_clauses
  append-fails k [] h = absurd (h refl)
  append-fails k (x ∷ xs) h = by (clause_holds χ x) (append-fails (suc k) xs) h
    where
      by : (t : Bool) → ((check_clauses χ (suc k) xs ≡ Accepted → ⊥) → check_clauses χ (suc k) (xs ++ ys) ≡ check_clauses χ (suc k) xs)
          → (◌≡◌ {A = Checked} (elim t [ true ↦ check_clauses χ (suc k) xs | false ↦ Fails k ]) Accepted → ⊥)
          → ◌≡◌ {A = Checked} (elim t [ true ↦ check_clauses χ (suc k) (xs ++ ys) | false ↦ Fails k ])
          (elim t [ true ↦ check_clauses χ (suc k) xs | false ↦ Fails k ])
      by true r h = r h
      by false r h = refl

-- ---- those of an edition
not_negative : (z : ℤ) → le_z (pos 0) z ≡ not (is_negative z)
unfolding is_negative
not_negative (pos n) = le-leb 0 n (omega arith)
not_negative (negsuc n) = refl

-- the first f of them hold
abbrev pub NotBelow : (ℕ → ℤ) → ℕ → Type 0
NotBelow x f = (g : ℕ) → g < f → is_negative (x g) ≡ false

pub one_more : (x : ℕ → ℤ) (f : ℕ) → NotBelow x f → is_negative (x f) ≡ false → NotBelow x (f + 1)
one_more x f h e g l = ⊎_elim (λ z. let q : f ≡ g = omega arith in subst (λ (i : ℕ). is_negative (x i) ≡ false) q e)
    (λ z. h g (omega arith))
    (eq-zero-or-pos (f - g))

module _ (χ : Assignment) (n count : ℕ) (small : count ≤ limit.rationals) where
  abbrev all : List Clause
  all = tabulate count non_negative

  holds : (f : ℕ) → f < count → clause_holds χ (non_negative f) ≡ not (is_negative (χ.numerators f))
  holds f h = holds-added χ f (omega arith) ∙ not_negative (χ.numerators f)

  -- so those behind them decide
  passed : (f : ℕ) → f ≤ count → NotBelow χ.numerators f → check_clauses χ (n + f) (drop f all) ≡ check_clauses χ n all
  unfolding check_clauses
  passed zero h k = let z : n + 0 ≡ n = omega arith in ap (λ (i : ℕ). check_clauses χ i all) z
  passed (suc f) h k =
      let z : n + suc f ≡ suc (n + f) = omega arith in
      ap (λ (i : ℕ). check_clauses χ i (drop (suc f) all)) z
      ∙ sym (rw (holds f (omega arith) ∙ ap not (k f (omega arith)), check_clauses))
      ∙ ap (check_clauses χ (n + f)) (sym (drop-tabulate count non_negative f (omega arith)))
      ∙ passed f (omega arith) (λ g l. k g (omega arith))

  pub added-done : (f : ℕ) → f ≤ count → count ≤ f → NotBelow χ.numerators f → Accepted ≡ check_clauses χ n all
  unfolding check_clauses
  added-done f few h k =
      let e : count ≡ f = omega arith in
      ap (check_clauses χ (n + f)) (sym (drop-tabulated count non_negative) ∙ ap (λ (i : ℕ). drop i all) e) ∙ passed f few k

  pub added-fails : (f : ℕ) → f < count → NotBelow χ.numerators f → is_negative (χ.numerators f) ≡ true
      → Fails (n + f) ≡ check_clauses χ n all
  unfolding check_clauses
  added-fails f h k e =
      sym (rw (holds f h ∙ ap not e, check_clauses))
      ∙ ap (check_clauses χ (n + f)) (sym (drop-tabulate count non_negative f h)) ∙ passed f (omega arith) k

-- ---- both together
module _ (χ : Assignment) (xs : List Clause) (e : Edition) (r : ℕ) where
  pub posed-accepted : {count n : ℕ} → count ≡ length (added e r) → length xs ≡ n → check_clauses χ 0 xs ≡ Accepted
      → check_clauses χ n (tabulate count non_negative) ≡ check_clauses χ 0 (xs ++ added e r)
  posed-accepted {n = n} counts many h =
      let z : n ≡ 0 + length xs = omega (arith, many) in
      (λ i. check_clauses χ (z i) (tabulate (counts i) non_negative))
      ∙ ap (check_clauses χ (0 + length xs)) (sym (added-tabulated e r)) ∙ sym (append-accepted χ (added e r) 0 xs h)

  pub posed-fails : (k : ℕ) → check_clauses χ 0 xs ≡ Fails k → Fails k ≡ check_clauses χ 0 (xs ++ added e r)
  posed-fails k h = sym (append-fails χ (added e r) 0 xs (λ a. let b = sym h ∙ a in let z : ◌≡◌ {A = ℕ} 0 1 = cc in omega arith) ∙ h)

  pub posed-refused : (f : Refusal) (place : ℕ) → check_clauses χ 0 xs ≡ Refused f place
      → Refused f place ≡ check_clauses χ 0 (xs ++ added e r)
  posed-refused f place h =
      sym (append-fails χ (added e r) 0 xs (λ a. let b = sym h ∙ a in let z : ◌≡◌ {A = ℕ} 0 1 = cc in omega arith) ∙ h)
