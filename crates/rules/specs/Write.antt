-- Problems written clause by clause, as the examples do, to their bytes.
use Rattle.std.specs.Prelude.{List, [], ◌∷◌, ◌++◌, ℕ, ℤ, length}
use Rattle.rules.specs.Lists.{concat}
use Rattle.rules.specs.Bytes.{to_bytes, amount_bytes}

-- a comparison: relation byte, coefficients, bound
abbrev pub at_most : List ℤ → ℤ → List ℕ
at_most cs k = 1 ∷ amount_bytes cs ++ amount_bytes (k ∷ [])

abbrev pub below : List ℤ → ℤ → List ℕ
below cs k = 2 ∷ amount_bytes cs ++ amount_bytes (k ∷ [])

abbrev pub equals : List ℤ → ℤ → List ℕ
equals cs k = 3 ∷ amount_bytes cs ++ amount_bytes (k ∷ [])

abbrev pub at_least : List ℤ → ℤ → List ℕ
at_least cs k = 4 ∷ amount_bytes cs ++ amount_bytes (k ∷ [])

-- a clause of literal bytes and comparisons; of one comparison alone
abbrev pub clause_of : List ℕ → List (List ℕ) → List ℕ
clause_of literals comparisons = length literals ∷ literals ++ (length comparisons ∷ concat comparisons)

abbrev pub alone : List ℕ → List ℕ
alone comparison = clause_of [] (comparison ∷ [])

-- b, r, and the clauses after their count
abbrev pub problem_of : ℕ → ℕ → List (List ℕ) → List ℕ
problem_of b r clauses = b ∷ r ∷ to_bytes 2 (length clauses) ++ concat clauses
