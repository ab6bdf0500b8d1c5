-- Normalizing ("tidying"): a clause or a resolvent is dropped, or brought to one form.
use Rattle.std.specs.Prelude.{Bool, true, false, List, [], ◌∷◌, map, pos}
use Rattle.std.specs.Bool.{beq}
use Rattle.std.proofs.Math.Option.{Option, none, some}
use Rattle.std.specs.Int.Signed.{quot_z}
use Rattle.rules.specs.Lists.{all}
use Rattle.rules.specs.Arithmetic.{gcd_all, related, is_zero}
use Rattle.rules.specs.Problem.{Literal, Constraint}
use Rattle.rules.specs.Readings.{Disjunction}
use Rattle.rules.specs.Lines.{Booleans, no_booleans, including, meet, Line}

-- "a literal written twice counts as one": the Boolean variables of one sign, as a set
unfoldable pub members_of : Bool → List Literal → Booleans
members_of negated [] = no_booleans
members_of negated (l ∷ ls) =
    elim (beq l.negated negated) [ true ↦ including l.boolean (members_of negated ls) | false ↦ members_of negated ls ]

-- "divided by the greatest common divisor of coefficients and bound"
unfoldable pub reduced : Constraint → Constraint
reduced c =
    let g = pos (gcd_all (c.bound ∷ c.coefficients)) in
    record { strict = c.strict; coefficients = map (λ z. quot_z z g) c.coefficients; bound = quot_z c.bound g }

-- "A condition with all coefficients 0 drops the clause if true; if false, the condition alone is struck out."
pub data Settled : Type 0 where
  always never : Settled
  kept : Constraint → Settled

unfoldable pub settled : Constraint → Settled
settled c =
    elim (all is_zero c.coefficients) [
      | true ↦ elim (related c.strict (pos 0) c.bound) [ true ↦ always | false ↦ never ]
      | false ↦ kept (reduced c)
    ]

-- a normalized clause
pub record Normal : Type 0 where
  pub positive : Booleans
  pub negative : Booleans
  pub constraints : List Constraint

-- the constraints that stay, or none where one is always true; "Conditions that repeat are kept."
unfoldable pub settled_all : List Constraint → Option (List Constraint)
settled_all [] = some []
settled_all (c ∷ cs) =
    elim (settled c) [
      | always ↦ none
      | never ↦ settled_all cs
      | kept d ↦ elim (settled_all cs) [ none ↦ none | some ds ↦ some (d ∷ ds) ]
    ]

-- a reading of a clause normalized, or none where it is dropped; "A mark in both signs: the clause is dropped."
unfoldable pub normal_clause : Disjunction → Option Normal
normal_clause c =
    let p = members_of false c.literals in
    let n = members_of true c.literals in
    elim (meet p n) [
      | true ↦ none
      | false ↦ elim (settled_all c.constraints) [
        | none ↦ none
        | some cs ↦ some (record {
          positive = p;
          negative = n;
          constraints = cs;
        })
      ]
    ]

-- a resolvent normalized, or none where it is dropped
unfoldable pub settled_line : Line → Settled → Option Line
settled_line l always = none
settled_line l never = some (record { positive = l.positive; negative = l.negative; constraint = none })
settled_line l (kept d) = some (record { positive = l.positive; negative = l.negative; constraint = some d })

unfoldable pub normal_line : Line → Option Line
normal_line l =
    elim (meet l.positive l.negative) [
      | true ↦ none
      | false ↦ elim l.constraint [ none ↦ some l | some c ↦ settled_line l (settled c) ]
    ]
