-- The split variables of a reading: none where it is dropped, and one less than the constraints that stay; and of a clause.
use Rattle.std.specs.Prelude.{◌≡◌, refl, Bool, List, ℕ, ◌+◌, ◌-◌, get_or}
use Rattle.std.proofs.Common.{ap, ◌∙◌}
use Rattle.std.proofs.Math.Bool.{true, false}
use Rattle.std.proofs.Math.Option.{Option, none, some}
use native.Mathlib.Omega.{arith}
use Rattle.std.proofs.Math.ListN.{length}
use Rattle.rules_types.specs.Limits.{all_booleans}
use Rattle.rules.specs.Problem.{Constraint}
use Rattle.rules.specs.Readings.{Disjunction, reading}
use Rattle.rules.specs.Lines.{meet}
use Rattle.rules.specs.Normalize.{settled_all, members_of, normal_clause}
use Rattle.rules.specs.Split.{reading_splits, splits_of}
use Rattle.theory_splitting.specs.Few.{splits-most}
use Rattle.problem_clauses.specs.declared.splits.Staying.{Staying}
use Rattle.problem_clauses.specs.declared.splits.Staying.TheVariants.{Dropped, Count}
use Rattle.masks.specs.Mask.{bits}
use Rattle.problem_scan.specs.Values.{values_at, literal_at, constraints_at, count_of, clause_at}
use Rattle.problem_clauses.specs.Remaining.{counted}
use Rattle.problem_clauses.specs.Readings.{constraints-at}

abbrev pub splits_by : Bool → Staying → ℕ
splits_by true k = 0
splits_by false Dropped = 0
splits_by false (Count n) = n - 1

module _ (c : Disjunction) where
  abbrev clashes : Bool
  clashes = meet (members_of false c.literals) (members_of true c.literals)

  splits-by : (m : Bool) (o : Option (List Constraint)) → clashes ≡ m → settled_all c.constraints ≡ o
      → reading_splits c ≡ splits_by m (counted 0 o)
  unfolding reading_splits normal_clause counted
  splits-by true o e f = rw (e, normal_clause, reading_splits)
  splits-by false none e f = rw (e, f, normal_clause, reading_splits)
  splits-by false (some cs) e f = let z : length cs ≡ 0 + length cs = omega arith in
      rw (e, f, normal_clause, reading_splits) (ap (λ (n : ℕ). n - 1) z)

  splits-is : reading_splits c ≡ splits_by clashes (counted 0 (settled_all c.constraints))
  splits-is = splits-by clashes (settled_all c.constraints) refl refl

-- ---- of a reading of the clause at a place, by its literals as masks p and n and the place of its count of comparisons
module _ (q : List ℕ) (r at p n : ℕ) (positives : bits all_booleans p ≡ members_of false
    (values_at (literal_at q) 1 (get_or q at 0) (at + 1)))
    (negatives : bits all_booleans n ≡ members_of true (values_at (literal_at q) 1 (get_or q at 0) (at + 1))) where
  pub splits-at : (second m : Bool) (place : ℕ) → meet (bits all_booleans p) (bits all_booleans n) ≡ m → place ≡ count_of q at
      → reading_splits (reading second (clause_at q r at))
      ≡ splits_by m (counted 0 (settled_all (constraints_at q second r (get_or q place 0) (place + 1))))
  unfolding reading clause_at
  splits-at second m place e i =
      splits-is (reading second (clause_at q r at))
      ∙ rw (constraints-at q second r at, ← positives, ← negatives, e, ← i)

  -- where the literals clash, no reading takes any
  pub splits-clash : meet (bits all_booleans p) (bits all_booleans n) ≡ true → splits_of (clause_at q r at) ≡ 0
  splits-clash e =
      omega (arith, splits-most (clause_at q r at) 0 (λ second. omega (arith, splits-at second true (count_of q at) e refl)))
