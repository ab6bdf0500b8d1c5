-- The most bytes that each part of the text takes: a number of 64 bits has at most 20 digits.
use Rattle.std.specs.Prelude.{ℕ, ◌+◌, ◌*◌}
use Rattle.rules_types.specs.Limits as limit

-- a number or one with a sign, and the byte behind it
abbrev pub number_room : ℕ
number_room = 21

abbrev pub signed_room : ℕ
signed_room = 1 + number_room

-- behind a word: a space, and one number or two
abbrev pub pair_room : ℕ
pair_room = 2 * number_room

abbrev pub count_room : ℕ
count_room = 1 + number_room

abbrev pub counts_room : ℕ
counts_room = 1 + pair_room

-- "refused" and three numbers
abbrev pub refusal_room : ℕ
refusal_room = 8 + 3 * number_room

-- ---- a proof: "lines" and their number, and four numbers for each
abbrev pub step_room : ℕ
step_room = 4 * number_room

abbrev pub proof_room : ℕ → ℕ
proof_room n = 5 + count_room + step_room * n

-- ---- a model: "marks" and their number, a number for each; "figures" and their number, two numbers for each
abbrev pub booleans_room : ℕ → ℕ
booleans_room b = 5 + count_room + number_room * b

abbrev pub rational_room : ℕ
rational_room = signed_room + number_room

abbrev pub rationals_room : ℕ → ℕ
rationals_room r = 7 + count_room + rational_room * r

abbrev pub model_room : ℕ
model_room = booleans_room limit.booleans + rationals_room limit.rationals
