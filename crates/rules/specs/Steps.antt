-- The proof ("the book"): a step is a line with its origin, and has 64 bytes.
use Rattle.std.specs.Prelude.{cond, List, [], ◌∷◌, ◌++◌, ℕ, ◌+◌, ◌*◌, ℤ, pos, replicate, take, drop}
use Rattle.std.proofs.Math.Option.{Option, none, some}
use Rattle.rules_types.specs.Limits as limit
use Rattle.rules.specs.Bytes.{to_bytes, amount_bytes, padded}
use Rattle.rules.specs.Problem.{Constraint}
use Rattle.rules.specs.Lines.{Booleans, Line, Variable, rational, boolean}

-- a clause's part, both by number; or the resolvent of two lines, by number, by a variable
pub data Origin : Type 0 where
  loaded : ℕ → ℕ → Origin
  resolved : Variable → ℕ → ℕ → Origin

pub record Step : Type 0 where
  pub origin : Origin
  pub line : Line

-- "Byte 0: how (0 loaded, 1 by a figure, 2 by a mark). Byte 1: which figure or mark, 0 if loaded. Two bytes: first parent line
-- (loaded: clause). Two: second parent (loaded: piece)."
pub record Header : Type 0 where
  pub how : ℕ
  pub which : ℕ
  pub first : ℕ
  pub second : ℕ

unfoldable pub header : Origin → Header
header (loaded clause part) = record { how = 0; which = 0; first = clause; second = part }
header (resolved (rational f) first second) = record { how = 1; which = f; first = first; second = second }
header (resolved (boolean i) first second) = record { how = 2; which = i; first = first; second = second }

unfoldable pub header_bytes : Header → List ℕ
header_bytes h = h.how ∷ h.which ∷ to_bytes 2 h.first ++ to_bytes 2 h.second

-- "relation, 0 without a condition"
unfoldable pub relation_byte : Option Constraint → ℕ
relation_byte none = 0
relation_byte (some c) = cond c.strict 2 1

-- "mark i is 2^i"
unfoldable pub mask : Booleans → ℕ
mask [] = 0
mask (a ∷ s) = cond a 1 0 + 2 * mask s

-- "Eight coefficients, 0 from r on; bound"; "Without a condition, coefficients and bound are 0."
unfoldable pub row : Option Constraint → List ℤ
row none = replicate (limit.rationals + 1) (pos 0)
row (some c) = c.coefficients ++ (c.bound ∷ [])

-- "Byte 6: relation ... Byte 7: 0. Four bytes each: positive marks, negative marks"
unfoldable pub line_bytes : Line → List ℕ
line_bytes l =
    relation_byte l.constraint ∷ 0 ∷ to_bytes 4 (mask l.positive) ++ to_bytes 4 (mask l.negative) ++ amount_bytes (row l.constraint)

-- the line's 64 bytes: "12 zero bytes" are left
unfoldable pub encode_step : Step → List ℕ
encode_step s = padded limit.step_bytes (header_bytes (header s.origin) ++ line_bytes s.line)

unfoldable pub encode_proof : List Step → List ℕ
encode_proof [] = []
encode_proof (s ∷ ss) = encode_step s ++ encode_proof ss

-- the bytes of step i of a proof
unfoldable pub step_at : List ℕ → ℕ → List ℕ
step_at proof i = take limit.step_bytes (drop (limit.step_bytes * i) proof)
