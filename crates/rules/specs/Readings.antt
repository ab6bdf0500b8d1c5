-- How a clause is read, with ≤ and < alone: once, or twice where it has an =.
use Rattle.std.specs.Prelude.{Bool, true, false, cond, List, [], ◌∷◌, map, ℤ, neg_ℤ}
use Rattle.rules.specs.Lists.{any}
use Rattle.rules.specs.Problem.{Literal, Relation, le, lt, eq, ge, Comparison, Constraint, Clause, is_equality}

-- a reading of a clause: literals and constraints, one of which is to hold
pub record Disjunction : Type 0 where
  pub literals : List Literal
  pub constraints : List Constraint

unfoldable pub is_strict : Relation → Bool
is_strict le = false
is_strict lt = true
is_strict eq = false
is_strict ge = false

-- "A ≥ is read with all signs turned."; an = is read "first with ≤, then with ≥"
unfoldable pub turns : Bool → Relation → Bool
turns second le = false
turns second lt = false
turns second eq = second
turns second ge = true

unfoldable pub signed : Bool → ℤ → ℤ
signed turned z = cond turned (neg_ℤ z) z

-- what a comparison is read as, in the first or in the second reading of its clause
unfoldable pub read_as : Bool → Comparison → Constraint
read_as second c =
    let turned = turns second c.relation in
    record { strict = is_strict c.relation; coefficients = map (signed turned) c.coefficients; bound = signed turned c.bound }

unfoldable pub reading : Bool → Clause → Disjunction
reading second c = record { literals = c.literals; constraints = map (read_as second) c.comparisons }

-- "A clause with one = is read as two": "Whoever reads a clause now gets one or two."
unfoldable pub has_equality : List Comparison → Bool
has_equality cs = any (λ c. is_equality c.relation) cs

unfoldable pub readings : Clause → List Disjunction
readings c = reading false c ∷ cond (has_equality c.comparisons) (reading true c ∷ []) []
