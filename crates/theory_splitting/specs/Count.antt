-- How many parts a reading has: one more than split variables, or none; and how many a clause has.
use Rattle.std.specs.Prelude.{◌≡◌, refl, Bool, true, false, cond, List, [], ◌∷◌, ℕ, suc, ◌+◌, ◌-◌, ◌≤◌, max, length}
use Rattle.std.proofs.Common.{ap, arith, length-append}
use Rattle.std.proofs.Math.Option.{Option, none, some}
use Rattle.rules.specs.Problem.{Constraint, Clause}
use Rattle.rules.specs.Readings.{Disjunction, reading, has_equality, readings}
use Rattle.rules.specs.Lines as rules
use Rattle.rules.specs.Lines.{Booleans, no_booleans, including}
use Rattle.rules.specs.Normalize.{Normal, normal_clause}
use Rattle.rules.specs.Split.{chain, parts, reading_parts, reading_splits, all_parts, all_splits, parts_of, splits_of}

pub chain_length : (k : ℕ) (p n : Booleans) (c : Constraint) (cs : List Constraint) → length (chain k p n c cs) ≡ suc (length cs)
unfolding chain
chain_length k p n c [] = refl
chain_length k p n c (d ∷ ds) = ap suc (chain_length (suc k) no_booleans (including k no_booleans) d ds)

pub parts-number : (k : ℕ) (p n : Booleans) (cs : List Constraint)
    → length (parts k (record { positive = p; negative = n; constraints = cs })) ≡ max 1 (length cs)
unfolding parts
parts-number k p n [] = refl
parts-number k p n (c ∷ cs) = omega (arith, chain_length k p n c cs)

-- the parts of what normalizing gives, and how many split variables they take
abbrev pub normal_parts : ℕ → Option Normal → List rules.Line
normal_parts k o = elim o [ none ↦ [] | some n ↦ parts k n ]

abbrev pub normal_splits : Option Normal → ℕ
normal_splits o = elim o [ none ↦ 0 | some n ↦ length n.constraints - 1 ]

-- "splits into k pieces by k - 1 links"
pub splits-number : (k : ℕ) (d : Disjunction) → reading_splits d ≡ length (reading_parts k d) - 1
unfolding reading_parts reading_splits
splits-number k d = by (normal_clause d)
  where
    by : (o : Option Normal) → normal_splits o ≡ length (normal_parts k o) - 1
    by none = refl
    by (some n) = omega (arith, parts-number k n.positive n.negative n.constraints)

-- of several readings
all-length : (k : ℕ) (ds : List Disjunction) → length (all_parts k ds) ≤ length ds + all_splits ds
unfolding all_parts all_splits
all-length k [] = omega arith
all-length k (d ∷ ds) =
    omega (
      arith,
      splits-number k d,
      length-append (reading_parts k d) (all_parts (k + reading_splits d) ds),
      all-length (k + reading_splits d) ds,
    )

-- of a clause, which has two at most
pub parts-length : (k : ℕ) (c : Clause) → length (parts_of k c) ≤ 2 + splits_of c
unfolding parts_of splits_of readings
parts-length k c = by (has_equality c.comparisons) (all-length k (readings c))
  where
    by : (t : Bool)
        → length (all_parts k (readings c))
        ≤ length {A = Disjunction} (reading false c ∷ cond t (reading true c ∷ []) []) + all_splits (readings c)
        → length (all_parts k (readings c)) ≤ 2 + all_splits (readings c)
    by true h = h
    by false h = omega (arith, h)
