-- The problem's meaning: when an assignment ("a choice") of Boolean and rational variables ("marks" and "figures") satisfies it.
use Rattle.std.specs.Prelude.{Bool, not, cond, ◌||◌, ℕ, ◌≤◌, ℤ, pos, ◌*ℤ◌, T}
use Rattle.rules.specs.Lists.{any, all}
use Rattle.std.specs.Int.Signed.{le_z, lt_z}
use Rattle.rules.specs.Arithmetic.{sum, related, equal}
use Rattle.rules.specs.Problem.{Literal, Relation, le, lt, eq, ge, Comparison, Constraint, Clause, Problem}

-- an assignment: a yes or no for each Boolean variable, a whole numerator for each rational variable, and one whole denominator, of any
-- size; what stands beyond a problem's variables makes no difference
pub record Assignment : Type 0 where
  pub booleans : ℕ → Bool
  pub numerators : ℕ → ℤ
  pub denominator : ℕ

-- "a literal holds if its mark is yes, a negated one if it is no"
unfoldable pub literal_holds : Assignment → Literal → Bool
literal_holds χ l = cond l.negated (not (χ.booleans l.boolean)) (χ.booleans l.boolean)

-- "satisfaction is meant with the new relations"
unfoldable pub compared : Relation → ℤ → ℤ → Bool
compared le a b = le_z a b
compared lt a b = lt_z a b
compared eq a b = equal a b
compared ge a b = le_z b a

-- "a condition then compares the sum of coefficient × numerator with bound × denominator"
unfoldable pub comparison_holds : Assignment → Comparison → Bool
comparison_holds χ c = compared c.relation (sum c.coefficients χ.numerators) (c.bound *ℤ pos χ.denominator)

-- a line's
unfoldable pub constraint_holds : Assignment → Constraint → Bool
constraint_holds χ c = related c.strict (sum c.coefficients χ.numerators) (c.bound *ℤ pos χ.denominator)

-- "A clause holds if one literal or condition holds"
unfoldable pub clause_holds : Assignment → Clause → Bool
clause_holds χ c = any (literal_holds χ) c.literals || any (comparison_holds χ) c.comparisons

-- "one whole denominator of at least 1"; "a choice satisfies the question if every clause holds"
pub record Satisfies (χ : Assignment) (p : Problem) : Type 0 where
  pub denominator : 1 ≤ χ.denominator
  pub clauses : T (all (clause_holds χ) p.clauses)
