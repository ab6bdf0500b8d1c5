-- Fault 13: the split variables counted clause by clause.
use Rattle.std.specs.Prelude.{◌≡◌, refl, List, ◌∷◌, ℕ, ◌+◌, ◌-◌, ◌≤◌, ◌<◌}
use Rattle.std.proofs.Common.{sym, ◌∙◌, lt-ltb, le-ltb}
use Rattle.std.proofs.Math.Path.{ap}
use Rattle.std.proofs.Math.Option.{Option, none, some}
use native.Mathlib.Omega.{arith}
use Rattle.rules_types.specs.Limits as limit
use Rattle.rules.specs.Problem.{Clause}
use Rattle.rules.specs.Split.{splits_of, over_split}
use Rattle.problem_scan.specs.Values.{clause_at, clause_end}
use Rattle.problem_read.specs.declared.over.Excess.{Excess}
use Rattle.problem_read.specs.declared.over.Excess.TheVariants.{Within, At}
use Rattle.problem_read.specs.Clauses.{clauses_at, clauses_end, clauses-next, ends_next}

unfoldable pub excess : Option ℕ → Excess
excess none = Within
excess (some place) = At place

pub excess-within : (o : Option ℕ) → Within ≡ excess o → o ≡ none
unfolding excess
excess-within none e = refl
excess-within (some place) e = let z : ◌≡◌ {A = ℕ} 0 1 = cc in absurd (omega arith)

pub excess-at : (o : Option ℕ) (place : ℕ) → At place ≡ excess o → o ≡ some place
unfolding excess
excess-at none place e = let z : ◌≡◌ {A = ℕ} 0 1 = cc in absurd (omega arith)
excess-at (some p) place e = cc

module _ (k : ℕ) (c : Clause) (cs : List Clause) where
  pub over-here : limit.splits < k + splits_of c → over_split k (c ∷ cs) ≡ some c.start
  unfolding over_split
  over-here h = rw (lt-ltb limit.splits (k + splits_of c) h, over_split)

  pub over-later : k + splits_of c ≤ limit.splits → over_split k (c ∷ cs) ≡ over_split (k + splits_of c) cs
  unfolding over_split
  over-later h = rw (le-ltb limit.splits (k + splits_of c) h, over_split)

-- of `count` clauses from `from` on, `left` are left, from `at` on, and `total` split variables are before them
pub record Counting (q : List ℕ) (r from count at left total : ℕ) : Type 0 where
  pub end : clauses_end q r left at ≡ clauses_end q r count from
  pub few : total ≤ limit.splits
  pub same : over_split total (clauses_at q r left at) ≡ over_split 0 (clauses_at q r count from)

module _ {q : List ℕ} {r from count at left total : ℕ} (run : Counting q r from count at left total) where
  pub counting-done : left ≤ 0 → Within ≡ excess (over_split 0 (clauses_at q r count from))
  unfolding over_split clauses_at excess
  counting-done h = let e : left ≡ 0 = omega arith in ap excess (sym (ap (λ (i : ℕ). over_split total (clauses_at q r i at)) e) ∙ run.same)

  module _ (more : 0 < left) where
    first : over_split total (clause_at q r at ∷ clauses_at q r (left - 1) (clause_end q r at)) ≡ over_split 0 (clauses_at q r count from)
    first = ap (over_split total) (sym (clauses-next q r left at more)) ∙ run.same

    pub counting-stop : limit.splits < total + splits_of (clause_at q r at) → At at ≡ excess (over_split 0 (clauses_at q r count from))
    unfolding excess clause_at
    counting-stop h = ap excess (sym (over-here total (clause_at q r at) (clauses_at q r (left - 1) (clause_end q r at)) h) ∙ first)

    pub counting-next : total + splits_of (clause_at q r at) ≤ limit.splits
        → Counting q r from count (clause_end q r at) (left - 1) (total + splits_of (clause_at q r at))
    counting-next h =
        record {
          end = sym (ends_next q r left at more) ∙ run.end;
          few = h;
          same = sym (over-later total (clause_at q r at) (clauses_at q r (left - 1) (clause_end q r at)) h) ∙ first;
        }
