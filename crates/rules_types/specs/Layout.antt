-- Where each field stands in the bytes of a problem, a step and a model. A problem's clauses have no fixed places.
use Rattle.std.specs.Prelude.{ℕ, ◌+◌, ◌*◌}

-- "byte: b ... Byte: r ... Two bytes: n", then the clauses
abbrev pub problem_booleans : ℕ
problem_booleans = 0

abbrev pub problem_rationals : ℕ
problem_rationals = 1

abbrev pub problem_clauses : ℕ
problem_clauses = 2

abbrev pub first_clause : ℕ
first_clause = 4

-- of a comparison: "a relation byte ... r coefficients, one bound"; and the bytes of the whole
abbrev pub comparison_coefficients : ℕ
comparison_coefficients = 1

abbrev pub comparison_bound : ℕ → ℕ
comparison_bound r = 1 + r * 4

abbrev pub comparison_bytes : ℕ → ℕ
comparison_bytes r = 5 + r * 4

-- of a step: "Byte 0: how ... Byte 1: which ... Two bytes: first parent ... Two: second parent ... Byte 6: relation ... Four bytes each:
-- positive marks, negative marks ... Eight coefficients ... bound; 12 zero bytes"
abbrev pub step_how : ℕ
step_how = 0

abbrev pub step_which : ℕ
step_which = 1

abbrev pub step_first : ℕ
step_first = 2

abbrev pub step_second : ℕ
step_second = 4

abbrev pub step_relation : ℕ
step_relation = 6

abbrev pub step_positive : ℕ
step_positive = 8

abbrev pub step_negative : ℕ
step_negative = 12

abbrev pub step_coefficients : ℕ
step_coefficients = 16

abbrev pub step_bound : ℕ
step_bound = 48

abbrev pub step_zeros : ℕ
step_zeros = 52

-- of a model: "b; b bytes of 0 or 1", or 2 (02, (iv)); "r; four bytes denominator; r numerators of four bytes"
abbrev pub model_booleans : ℕ
model_booleans = 0

abbrev pub model_flags : ℕ
model_flags = 1

abbrev pub model_rationals : ℕ → ℕ
model_rationals b = 1 + b

abbrev pub model_denominator : ℕ → ℕ
model_denominator b = 2 + b

abbrev pub model_numerators : ℕ → ℕ
model_numerators b = 6 + b
