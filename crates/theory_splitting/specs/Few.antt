-- How many split variables a clause takes at most, by how many comparisons it has.
use Rattle.std.specs.Prelude.{◌≡◌, refl, Bool, true, false, List, [], ◌∷◌, ℕ, ◌-◌, ◌*◌, ◌≤◌, length}
use Rattle.std.proofs.Math.Option.{Option, none, some}
use Rattle.std.proofs.Common.{arith}
use Rattle.std.proofs.lemmas.List.{length-map}
use Rattle.rules.specs.Problem.{Constraint, Clause}
use Rattle.rules.specs.Readings.{Disjunction, read_as, reading, has_equality}
use Rattle.rules.specs.Normalize.{Settled, always, never, kept, settled, settled_all}
use Rattle.rules.specs.Split.{reading_splits, splits_of}
use Rattle.theory_lists.specs.Dropped.{DroppedOr}
use Rattle.theory_splitting.specs.NormalClause.{normal_of, clause-ends}
use Rattle.theory_splitting.specs.Count.{normal_splits}
use Rattle.theory_splitting.specs.Twice.{splits-once, splits-twice}

abbrev AtMost : ℕ → List Constraint → Type 0
AtMost n ds = length ds ≤ n

settled-few : (cs : List Constraint) → DroppedOr (AtMost (length cs)) (settled_all cs)
unfolding settled_all
settled-few [] = omega arith
settled-few (c ∷ cs) = by (settled c) (settled_all cs) (settled-few cs)
  where
    by : (s : Settled) (o : Option (List Constraint)) → DroppedOr (AtMost (length cs)) o
        → DroppedOr (AtMost (length (c ∷ cs))) (elim s [
          | always ↦ none
          | never ↦ o
          | kept d ↦ elim o [ none ↦ none | some ds ↦ some (d ∷ ds) ]
        ])
    by always o h = tt
    by never none h = tt
    by never (some ds) h = omega (arith, h)
    by (kept d) none h = tt
    by (kept d) (some ds) h = omega (arith, h)

reading-few : (d : Disjunction) → reading_splits d ≤ length d.constraints - 1
unfolding reading_splits
reading-few d =
    clause-ends (λ o. normal_splits o ≤ length d.constraints - 1) d (λ m. omega arith)
    (λ m. by (settled_all d.constraints) (settled-few d.constraints))
  where
    by : (o : Option (List Constraint)) → DroppedOr (AtMost (length d.constraints)) o
        → normal_splits (normal_of d o) ≤ length d.constraints - 1
    by none h = omega arith
    by (some cs) h = omega (arith, h)

module _ (c : Clause) (n : ℕ) where
  pub splits-most : ((second : Bool) → reading_splits (reading second c) ≤ n) → splits_of c ≤ 2 * n
  splits-most few = by (has_equality c.comparisons) refl
    where
      by : (t : Bool) → has_equality c.comparisons ≡ t → splits_of c ≤ 2 * n
      by true e = omega (arith, splits-twice c e, few false, few true)
      by false e = omega (arith, splits-once c e, few false)

-- "k pieces by k - 1 links", in each reading
pub splits-few : (c : Clause) (n : ℕ) → length c.comparisons ≤ n → splits_of c ≤ 2 * (n - 1)
unfolding reading
splits-few c n h =
    splits-most c (n - 1) (λ second. omega (arith, reading-few (reading second c), length-map c.comparisons (read_as second), h))
