-- Document 01's limits. Every other definition names them by these words.
use Rattle.std.specs.Prelude.{ℕ, ◌+◌, ◌*◌}
use Rattle.rules_types.specs.declared.limits.Limits.{Limits}

-- "A question has at most 32,768 bytes."
abbrev pub problem_bytes : ℕ
problem_bytes = 32768

-- "lines of 64 bytes", "Sheet of 64 bytes"
abbrev pub step_bytes : ℕ
step_bytes = 64

abbrev pub model_bytes : ℕ
model_bytes = 64

-- "b, the marks, 0 to 16"; "r, the figures, 0 to 8"; "n, the clauses, 0 to 256"
abbrev pub booleans : ℕ
booleans = 16

abbrev pub rationals : ℕ
rationals = 8

abbrev pub clauses : ℕ
clauses = 256

-- 02, (v): "after clause n - 1, clauses n to n + r - 1"
abbrev pub all_clauses : ℕ
all_clauses = clauses + rationals

-- "m, 0 to 32, then m literals"; "t, 0 to 8, then t conditions"; "At most 16 links in all."
abbrev pub literals : ℕ
literals = 32

abbrev pub comparisons : ℕ
comparisons = 8

abbrev pub splits : ℕ
splits = 16

-- the Boolean variables of a line, the split variables among them, as many as four bytes have bits; a round for each variable: "Turn
-- numbers run from 0 to 39"
abbrev pub all_booleans : ℕ
all_booleans = booleans + splits

abbrev pub rounds : ℕ
rounds = rationals + all_booleans

-- "Amounts lie in -1,000,000,000 to 1,000,000,000."
abbrev pub amount : ℕ
amount = 1000000000

-- "The book has 1,024 lines"
abbrev pub steps : ℕ
steps = 1024

-- 02, (iii): "The preview page lends 16,384 bytes, 256 lines."
abbrev pub preview_steps : ℕ
preview_steps = 256

-- as many as the two bytes of a parent can number
abbrev pub most_steps : ℕ
most_steps = 65536

-- the limits of a caller who lends the whole proof, and of one who lends a preview
abbrev pub standard : Limits
standard = record { steps = steps }

abbrev pub preview : Limits
preview = record { steps = preview_steps }

-- the bytes of a proof of so many steps
abbrev pub proof_bytes : Limits → ℕ
proof_bytes l = l.steps * step_bytes
