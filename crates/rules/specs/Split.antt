-- Splitting: "A tidied clause with k ≥ 2 conditions splits into k pieces by k - 1 links".
use Rattle.std.specs.Prelude.{true, false, List, [], ◌∷◌, ◌++◌, ℕ, suc, ◌+◌, ◌-◌, ltb, length}
use Rattle.std.proofs.Math.Option.{Option, none, some}
use Rattle.rules_types.specs.Limits as limit
use Rattle.rules.specs.Problem.{Constraint, Clause}
use Rattle.rules.specs.Readings.{Disjunction, readings}
use Rattle.rules.specs.Lines.{Booleans, no_booleans, including, Line}
use Rattle.rules.specs.Normalize.{Normal, normal_clause}

-- the parts with constraints c and cs, k being the next split variable: "Piece 0 has the literals, condition 0 and its link; each later
-- piece has the previous link negated, its condition and, except the last, the next link."
unfoldable pub chain : ℕ → Booleans → Booleans → Constraint → List Constraint → List Line
chain k p n c [] = record { positive = p; negative = n; constraint = some c } ∷ []
chain k p n c (d ∷ ds) =
    record { positive = including k p; negative = n; constraint = some c } ∷ chain (suc k) no_booleans (including k no_booleans) d ds

unfoldable pub parts : ℕ → Normal → List Line
parts k c =
    elim c.constraints [
      | [] ↦ record { positive = c.positive; negative = c.negative; constraint = none } ∷ []
      | d ∷ ds ↦ chain k c.positive c.negative d ds
    ]

-- of a reading: its parts, and how many split variables they take; one that is dropped has none
unfoldable pub reading_parts : ℕ → Disjunction → List Line
reading_parts k d = elim (normal_clause d) [ none ↦ [] | some n ↦ parts k n ]

unfoldable pub reading_splits : Disjunction → ℕ
reading_splits d = elim (normal_clause d) [ none ↦ 0 | some n ↦ length n.constraints - 1 ]

-- of several, one after another
unfoldable pub all_parts : ℕ → List Disjunction → List Line
all_parts k [] = []
all_parts k (d ∷ ds) = reading_parts k d ++ all_parts (k + reading_splits d) ds

unfoldable pub all_splits : List Disjunction → ℕ
all_splits [] = 0
all_splits (d ∷ ds) = reading_splits d + all_splits ds

-- of a clause: "the second's pieces numbered on and its links counted"
unfoldable pub parts_of : ℕ → Clause → List Line
parts_of k c = all_parts k (readings c)

unfoldable pub splits_of : Clause → ℕ
splits_of c = all_splits (readings c)

-- 13: "over 16; first byte of the clause passing it", with k split variables before these clauses
unfoldable pub over_split : ℕ → List Clause → Option ℕ
over_split k [] = none
over_split k (c ∷ cs) = let n = k + splits_of c in elim (ltb limit.splits n) [ true ↦ some c.start | false ↦ over_split n cs ]
