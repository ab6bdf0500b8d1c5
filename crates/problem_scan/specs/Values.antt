-- The fields of a problem by their places: what stands there, and where it ends.
use Rattle.std.specs.Prelude.{◌≡◌, Bool, List, [], ◌∷◌, ◌++◌, ℕ, zero, suc, ◌+◌, ◌*◌, ◌-◌, ◌%◌, ℤ, pos, leb, get_or, replicate}
use Rattle.std.proofs.Common.{◌∙◌, suc-mul, arith}
use Rattle.rules_types.specs.Limits as limit
use Rattle.rules_types.specs.Layout as layout
use Rattle.rules.specs.Bytes.{from_unsigned, field_at}
use Rattle.rules.specs.Problem.{Literal, Comparison, Constraint, Clause, relation_of}
use Rattle.rules.specs.Readings.{read_as}

-- so many values, the next one so many bytes on; and the place behind them
unfoldable pub values_at : {A : Type 0} → (ℕ → A) → ℕ → ℕ → ℕ → List A
values_at one size zero at = []
values_at one size (suc k) at = one at ∷ values_at one size k (at + size)

unfoldable pub behind : ℕ → ℕ → ℕ → ℕ
behind size zero at = at
behind size (suc k) at = behind size k (at + size)

pub behind-is : (size k at : ℕ) → behind size k at ≡ at + k * size
unfolding behind
behind-is size zero at = omega arith
behind-is size (suc k) at = behind-is size k (at + size) ∙ omega (arith, suc-mul k size)

module _ (q : List ℕ) where
  unfoldable pub amount_at : ℕ → ℤ
  amount_at at = from_unsigned (field_at at 4 q)

  unfoldable pub literal_at : ℕ → Literal
  literal_at at = record { boolean = get_or q at 0 % 128; negated = leb 128 (get_or q at 0) }

  -- the place of the bound, and the place behind it
  unfoldable pub bound_of : ℕ → ℕ → ℕ
  bound_of r at = behind 4 r (at + layout.comparison_coefficients)

  unfoldable pub comparison_at : ℕ → ℕ → Comparison
  comparison_at r at =
      record {
        relation = relation_of (get_or q at 0);
        coefficients = values_at amount_at 4 r (at + layout.comparison_coefficients) ++ replicate (limit.rationals - r) (pos 0);
        bound = amount_at (bound_of r at);
      }

  -- so many comparisons, one behind another
  abbrev pub comparisons_at : ℕ → ℕ → ℕ → List Comparison
  comparisons_at r count at = values_at (comparison_at r) (layout.comparison_bytes r) count at

  -- what they are read as, in the first or in the second reading of their clause
  abbrev pub constraint_at : Bool → ℕ → ℕ → Constraint
  constraint_at second r at = read_as second (comparison_at r at)

  abbrev pub constraints_at : Bool → ℕ → ℕ → ℕ → List Constraint
  constraints_at second r count at = values_at (constraint_at second r) (layout.comparison_bytes r) count at

  -- the place of the count of comparisons, and the place behind them
  unfoldable pub count_of : ℕ → ℕ
  count_of at = behind 1 (get_or q at 0) (at + 1)

  unfoldable pub clause_at : ℕ → ℕ → Clause
  clause_at r at =
      record {
        start = at;
        literals = values_at literal_at 1 (get_or q at 0) (at + 1);
        comparisons = comparisons_at r (get_or q (count_of at) 0) (count_of at + 1);
      }

  unfoldable pub clause_end : ℕ → ℕ → ℕ
  clause_end r at = behind (layout.comparison_bytes r) (get_or q (count_of at) 0) (count_of at + 1)
