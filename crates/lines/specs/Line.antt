-- What a line in machine words stands for, and which lines the code keeps.
use Rattle.std.specs.Prelude.{◌≡◌, List, ℕ, zero, suc, ◌≤◌, ℤ, pos, eqb, replicate}
use Rattle.std.proofs.Math.Option.{Option, none, some}
use Rattle.rules_types.specs.Limits as limit
use Rattle.rules.specs.Problem.{Constraint}
use Rattle.rules.specs.Lines as rules
use Rattle.theory_vectors.specs.Amounts.{Small, Amounts}
use Rattle.lines.specs.declared.line.Line.{Line}
use Rattle.masks.specs.Mask.{bits}

-- "relation, 0 without a condition"; 1 is ≤ and 2 is <
unfoldable pub constraint_of : ℕ → List ℤ → ℤ → Option Constraint
constraint_of zero cs b = none
constraint_of (suc r) cs b = some (record { strict = eqb r 1; coefficients = cs; bound = b })

-- the constraint of a line that has one
abbrev pub constraint_in : Line → Constraint
constraint_in l = record { strict = eqb l.relation 2; coefficients = l.coefficients; bound = l.bound }

unfoldable pub meaning : Line → rules.Line
meaning l = record {
  positive = bits limit.all_booleans l.positive;
  negative = bits limit.all_booleans l.negative;
  constraint = constraint_of l.relation l.coefficients l.bound;
}

-- without a constraint, by its masks
abbrev pub bare_line : ℕ → ℕ → rules.Line
bare_line positive negative = record {
  positive = bits limit.all_booleans positive;
  negative = bits limit.all_booleans negative;
  constraint = none;
}

-- "Without a condition, coefficients and bound are 0."
pub record Shaped (l : Line) : Type 0 where
  pub related : l.relation ≤ 2
  pub coefficients : l.relation ≡ 0 → l.coefficients ≡ replicate limit.rationals (pos 0)
  pub bound : l.relation ≡ 0 → l.bound ≡ pos 0

-- a line that a proof can hold
pub record Ready (l : Line) : Type 0 where
  pub shaped : Shaped l
  pub coefficients : Amounts l.coefficients
  pub bound : Small l.bound
