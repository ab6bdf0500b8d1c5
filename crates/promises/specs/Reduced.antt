-- The clauses that steps load stand in the problem reduced to them.
use Rattle.std.specs.Prelude.{◌≡◌, refl, cond, List, [], ◌∷◌, eqb}
use Rattle.std.proofs.Common.{subst, inl, eq-or-lt_of_le, le_of_suc-le-suc, arith}
use Rattle.std.proofs.Math.Logic.{⊎_elim}
use Rattle.std.proofs.Math.Option.{some}
use Prim.Native.Nat.{ℕ, zero, suc}
use Rattle.std.proofs.Math.ListN.{get_elem?}
use Rattle.rules.specs.Problem.{Clause, Problem}
use Rattle.theory_lists.specs.All.{Any, any_left, any-right}
use Rattle.theory_trimming.specs.Statements.{how, first_of}
use Rattle.promises.specs.Trimming.{HasLoaded, clause_at, loaded_clauses, reduced_to}

module _ (p : Problem) (proof : List ℕ) where
  here : (n c : ℕ) (x : Clause) → how proof n ≡ 0 → first_of proof n ≡ c → get_elem? p.clauses c ≡ some x
      → x ∷ [] ≡ cond (eqb (how proof n) 0) (clause_at p (first_of proof n)) []
  unfolding clause_at
  here n c x h f at = rw (h, f, at, clause_at)

  pub reduced-has : (n : ℕ) → HasLoaded p proof n (reduced_to p proof n)
  unfolding reduced_to loaded_clauses
  reduced-has zero c x l at = absurd (omega (arith, l.1))
  reduced-has (suc n) c x (i, below, h, f) at = ⊎_elim
      (λ e. any-right _ (loaded_clauses p proof n) _
      (subst (Any (λ (y : Clause). (y.literals ≡ x.literals) × (y.comparisons ≡ x.comparisons)))
      (here n c x (rw e at h) (rw e at f) at) (inl (refl, refl))))
      (λ l. any_left _ (loaded_clauses p proof n) _ (reduced-has n c x (i, l, h, f) at))
      (eq-or-lt_of_le (le_of_suc-le-suc below))
