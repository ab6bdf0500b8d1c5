-- The clauses that stand one behind another from a place on: where reading gives a value, it is these, each within the limits.
use Rattle.std.specs.Prelude.{◌≡◌, List, [], ◌∷◌, length, drop}
use Rattle.std.proofs.Math.Path.{refl, ap}
use Prim.Native.Nat.{ℕ, zero, suc, ◌-◌, ◌≤◌, ◌<◌}
use native.Mathlib.Omega.{arith}
use Rattle.rules.specs.Problem.{Clause, repeat, clause}
use Rattle.problem_scan.specs.Values.{clause_at, clause_end}
use Rattle.problem_scan.specs.Sound.{SoundClauses}
use Rattle.problem_scan.specs.Valued.{Valued, given, valued-after, clause-valued}
use Rattle.problem_clauses.specs.Walk.{clause-≤}

module _ (q : List ℕ) (r : ℕ) where
  unfoldable pub clauses_at : ℕ → ℕ → List Clause
  clauses_at zero at = []
  clauses_at (suc n) at = clause_at q r at ∷ clauses_at n (clause_end q r at)

  -- the place behind them
  unfoldable pub clauses_end : ℕ → ℕ → ℕ
  clauses_end zero at = at
  clauses_end (suc n) at = clauses_end n (clause_end q r at)

  pub clauses_end-≥ : (n at : ℕ) → at ≤ clauses_end n at
  unfolding clauses_end
  clauses_end-≥ zero at = omega arith
  clauses_end-≥ (suc n) at = omega (arith, clause-≤ q r at, clauses_end-≥ n (clause_end q r at))

  pub length-clauses_at : (n at : ℕ) → length (clauses_at n at) ≡ n
  unfolding clauses_at
  length-clauses_at zero at = refl
  length-clauses_at (suc n) at = ap suc (length-clauses_at n (clause_end q r at))

  -- ---- one pass of a loop over them
  module _ (n at : ℕ) (more : 0 < n) where
    pub clauses-next : clauses_at n at ≡ clause_at q r at ∷ clauses_at (n - 1) (clause_end q r at)
    unfolding clauses_at
    clauses-next = let e : n ≡ suc (n - 1) = omega arith in ap (λ (i : ℕ). clauses_at i at) e

    pub ends_next : clauses_end n at ≡ clauses_end (n - 1) (clause_end q r at)
    unfolding clauses_end
    ends_next = let e : n ≡ suc (n - 1) = omega arith in ap (λ (i : ℕ). clauses_end i at) e

    pub end-within : clause_end q r at ≤ clauses_end n at
    end-within = omega (arith, ends_next, clauses_end-≥ (n - 1) (clause_end q r at))

  -- ---- as reading gives them
  pub clauses-valued : (b n at : ℕ) → at ≤ length q
      → Valued q (clauses_at n at) (SoundClauses q r n at) (clauses_end n at) (repeat n (clause b r) (drop at q) at)
  unfolding repeat clauses_at clauses_end SoundClauses
  clauses-valued b zero at h = given refl h tt
  clauses-valued b (suc n) at h = valued-after _ (clause-valued q b r at h)
      (λ s l. valued-after _ (clauses-valued b n (clause_end q r at) l) (λ ss l. given refl l (s, ss)))
