-- What reading a problem makes sure of; in every edition.
use Rattle.std.specs.Prelude.{◌≡◌, cond, List, [], ◌∷◌, ℕ, ◌+◌, ◌≤◌, ◌<◌, ℤ, pos, length, get_or}
use Rattle.rules_types.specs.Limits as limit
use Rattle.theory_lists.specs.All.{All}
use Rattle.rules.specs.Problem.{Comparison, Constraint, Clause, Problem, is_equality}
use Rattle.rules.specs.Readings.{Disjunction}
use Rattle.rules.specs.Split.{splits_of}
use Rattle.theory_vectors.specs.Amounts.{Small}

-- eight coefficients, 0 from r on, and amounts in their range
pub record WellFormedRow (r : ℕ) (cs : List ℤ) (β : ℤ) : Type 0 where
  pub coefficients : length cs ≡ limit.rationals
  pub beyond : (i : ℕ) → r ≤ i → get_or cs i (pos 0) ≡ pos 0
  pub amounts : All Small cs
  pub bound : Small β

abbrev pub WellFormedComparison : ℕ → Comparison → Type 0
WellFormedComparison r c = WellFormedRow r c.coefficients c.bound

abbrev pub WellFormedConstraint : ℕ → Constraint → Type 0
WellFormedConstraint r c = WellFormedRow r c.coefficients c.bound

-- how many are an =
unfoldable pub equalities : List Comparison → ℕ
equalities [] = 0
equalities (c ∷ cs) = cond (is_equality c.relation) 1 0 + equalities cs

-- literals of the b Boolean variables; "A clause with one ="
pub record WellFormedClause (b r : ℕ) (c : Clause) : Type 0 where
  pub literals : All (λ l. l.boolean < b) c.literals
  pub comparisons : All (WellFormedComparison r) c.comparisons
  pub single : equalities c.comparisons ≤ 1

-- the same of a reading
pub record WellFormedReading (b r : ℕ) (d : Disjunction) : Type 0 where
  pub literals : All (λ l. l.boolean < b) d.literals
  pub constraints : All (WellFormedConstraint r) d.constraints

-- the split variables of all clauses
abbrev pub splits_in : List Clause → ℕ
splits_in [] = 0
splits_in (c ∷ cs) = splits_of c + splits_in cs

pub record WellFormed (p : Problem) : Type 0 where
  pub booleans : p.booleans ≤ limit.booleans
  pub rationals : p.rationals ≤ limit.rationals
  pub few : length p.clauses ≤ limit.all_clauses
  pub clauses : All (WellFormedClause p.booleans p.rationals) p.clauses
  pub splits : splits_in p.clauses ≤ limit.splits
