-- The limits that a clause keeps to, said of the bytes: its counts, relations and amounts.
use Rattle.std.specs.Prelude.{◌≡◌, true, List, ◌++◌, pos, length, get_or, replicate}
use Rattle.std.proofs.Math.Path.{subst}
use Prim.Native.Nat.{ℕ, zero, suc, ◌+◌, ◌-◌, ◌≤◌, ◌<◌}
use native.Mathlib.Omega.{arith}
use Rattle.rules_types.specs.Limits as limit
use Rattle.rules_types.specs.Layout as layout
use Rattle.rules.specs.Problem.{is_relation}
use Rattle.theory_vectors.specs.Amounts.{Small}
use Rattle.problem_scan.specs.Values.{values_at, amount_at, bound_of, count_of, clause_end}

-- ---- so many values, the next one so many bytes on: each has the property
unfoldable pub Each : (ℕ → Type 0) → ℕ → ℕ → ℕ → Type 0
Each P size zero at = Unit {0}
Each P size (suc k) at = P at × Each P size k (at + size)

module _ (P : ℕ → Type 0) (size left at : ℕ) (more : 0 < left) (each : Each P size left at) where
  taken : P at × Each P size (left - 1) (at + size)
  unfolding Each
  taken = let e : left ≡ suc (left - 1) = omega arith in subst (λ (k : ℕ). Each P size k at) e each

  pub each_first : P at
  each_first = taken.0

  pub each-rest : Each P size (left - 1) (at + size)
  each-rest = taken.1

-- ---- the limits that a clause keeps to
abbrev pub Amount : List ℕ → ℕ → Type 0
Amount q at = Small (amount_at q at)

pub record SoundComparison (q : List ℕ) (r at : ℕ) : Type 0 where
  pub within : at + layout.comparison_bytes r ≤ length q
  pub relation : is_relation (get_or q at 0) ≡ true
  pub coefficients : Each (Amount q) 4 r (at + layout.comparison_coefficients)
  pub bound : Amount q (bound_of q r at)

pub record SoundClause (q : List ℕ) (r at : ℕ) : Type 0 where
  pub within : clause_end q r at ≤ length q
  pub literals : get_or q at 0 ≤ limit.literals
  pub count : get_or q (count_of q at) 0 ≤ limit.comparisons
  pub comparisons : Each (SoundComparison q r) (layout.comparison_bytes r) (get_or q (count_of q at) 0) (count_of q at + 1)

-- a coefficient that is not there is 0
pub padded-small : (q : List ℕ) (k at n : ℕ) → Each (Amount q) 4 k at → (i : ℕ)
    → Small (get_or (values_at (amount_at q) 4 k at ++ replicate n (pos 0)) i (pos 0))
unfolding Each values_at
padded-small q zero at zero each i = omega arith
padded-small q zero at (suc n) each zero = omega arith
padded-small q zero at (suc n) each (suc i) = padded-small q zero at n each i
padded-small q (suc k) at n each zero = each.0
padded-small q (suc k) at n each (suc i) = padded-small q k (at + 4) n each.1 i

-- ---- all clauses of a problem, each behind the one before
module _ (q : List ℕ) (r : ℕ) where
  unfoldable pub SoundClauses : ℕ → ℕ → Type 0
  SoundClauses zero at = Unit {0}
  SoundClauses (suc n) at = SoundClause q r at × SoundClauses n (clause_end q r at)

  module _ (n at : ℕ) (more : 0 < n) (each : SoundClauses n at) where
    opened : SoundClause q r at × SoundClauses (n - 1) (clause_end q r at)
    unfolding SoundClauses
    opened = let e : n ≡ suc (n - 1) = omega arith in subst (λ (k : ℕ). SoundClauses k at) e each

    pub clauses-first : SoundClause q r at
    clauses-first = opened.0

    pub clauses-rest : SoundClauses (n - 1) (clause_end q r at)
    clauses-rest = opened.1
