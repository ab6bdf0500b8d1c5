-- Where each field of a step and of a model stands in its bytes, with document 01's numbers: sections "The book" and "The sheet", and
-- refusal 17. These name no function that writes or reads whole steps or models.
use Rattle.std.specs.Prelude.{◌≡◌, ◌⊎◌, Bool, cond, not, false, List, ℕ, ◌+◌, ◌*◌, ◌/◌, ◌%◌, ◌^◌, ◌≤◌, ◌<◌, ℤ, pos, nat_abs, T, length}
use Rattle.std.specs.Prelude.{get_or}
use Rattle.std.proofs.Math.Option.{Option, none, some}
use Rattle.std.proofs.Math.ListN.{get_elem?}
use Rattle.rules.specs.Bytes.{from_unsigned, field_at}
use Rattle.rules.specs.Problem.{Constraint}
use Rattle.rules.specs.Meaning.{Assignment}
use Rattle.rules.specs.Lines.{Booleans, rational, boolean, coefficient}
use Rattle.rules.specs.Steps.{Origin, loaded, resolved, Step}

-- `field_at place size bytes` is the little-endian number of so many bytes at a place, `from_unsigned` the signed one of the same 32 bits

-- every byte from one place up to another is 0
abbrev pub Zeros : ℕ → ℕ → List ℕ → Type 0
Zeros from to bytes = (place : ℕ) → from ≤ place → place < to → field_at place 1 bytes ≡ 0

-- ---- a step, at byte `at`
-- "Byte 0: how ... Byte 1: which figure or mark ... Two bytes: first parent line (loaded: clause). Two: second parent (loaded: piece)."
pub record HeadAt (bytes : List ℕ) (at h w a b : ℕ) : Type 0 where
  pub how : field_at at 1 bytes ≡ h
  pub which : field_at (at + 1) 1 bytes ≡ w
  pub first : field_at (at + 2) 2 bytes ≡ a
  pub second : field_at (at + 4) 2 bytes ≡ b

-- "how (0 loaded, 1 by a figure, 2 by a mark)"; "0 if loaded"
abbrev pub OriginAt : List ℕ → ℕ → Origin → Type 0
OriginAt bytes at (loaded clause part) = HeadAt bytes at 0 0 clause part
OriginAt bytes at (resolved (rational f) first second) = HeadAt bytes at 1 f first second
OriginAt bytes at (resolved (boolean i) first second) = HeadAt bytes at 2 i first second

-- "relation, 0 without a condition": "1 is ≤, 2 is <"
abbrev pub relation_of : Option Constraint → ℕ
relation_of none = 0
relation_of (some c) = cond c.strict 2 1

-- "Without a condition, coefficients and bound are 0."
abbrev pub bound_of : Option Constraint → ℤ
bound_of none = pos 0
bound_of (some c) = c.bound

-- "mark i is 2^i": bit i of the four bytes' number
abbrev pub BooleansAt : List ℕ → ℕ → Booleans → Type 0
BooleansAt bytes place s = (i : ℕ) → i < 32 → field_at place 4 bytes / 2 ^ i % 2 ≡ cond (get_or s i false) 1 0

-- "Byte 6: relation ... Byte 7: 0. Four bytes each: positive marks, negative marks ... Eight coefficients ... bound; 12 zero bytes."
pub record StepAt (bytes : List ℕ) (at : ℕ) (s : Step) : Type 0 where
  pub room : at + 64 ≤ length bytes
  pub origin : OriginAt bytes at s.origin
  pub relation : field_at (at + 6) 1 bytes ≡ relation_of s.line.constraint
  pub zero : field_at (at + 7) 1 bytes ≡ 0
  pub positive : BooleansAt bytes (at + 8) s.line.positive
  pub negative : BooleansAt bytes (at + 12) s.line.negative
  pub coefficients : (f : ℕ) → f < 8 → from_unsigned (field_at (at + (16 + 4 * f)) 4 bytes) ≡ coefficient f s.line.constraint
  pub bound : from_unsigned (field_at (at + 48) 4 bytes) ≡ bound_of s.line.constraint
  pub zeros : Zeros (at + 52) (at + 64) bytes

-- ---- a proof with room for so many lines
-- "lines of 64 bytes"; "The book's unused lines are 0"
pub record HoldsSteps (bytes : List ℕ) (steps : List Step) (lines : ℕ) : Type 0 where
  pub step : (i : ℕ) (s : Step) → get_elem? steps i ≡ some s → StepAt bytes (64 * i) s
  pub unused : Zeros (64 * length steps) (64 * lines) bytes

-- ---- a model
-- "b; b bytes of 0 or 1; r; four bytes denominator; r numerators of four bytes": what the bytes say, with denominator and numerators in
-- the range that 17 asks for. 02, (iv): the byte of an open variable is 2, which states either value
pub record StatesModel (bytes : List ℕ) (b r : ℕ) (opens : ℕ → Bool) (χ : Assignment) : Type 0 where
  pub booleans : field_at 0 1 bytes ≡ b
  pub boolean : (i : ℕ) → i < b → field_at (1 + i) 1 bytes ≡ cond (opens i) 2 (cond (χ.booleans i) 1 0)
  pub rationals : field_at (1 + b) 1 bytes ≡ r
  pub denominator : field_at (2 + b) 4 bytes ≡ χ.denominator
  pub numerator : (f : ℕ) → f < r → from_unsigned (field_at (6 + b + 4 * f) 4 bytes) ≡ χ.numerators f
  pub least : 1 ≤ χ.denominator
  pub most : χ.denominator ≤ 1000000000
  pub range : (f : ℕ) → f < r → nat_abs (χ.numerators f) ≤ 1000000000

-- the same, then "zeros", in 64 bytes
pub record ModelAt (bytes : List ℕ) (b r : ℕ) (opens : ℕ → Bool) (χ : Assignment) : Type 0 where
  pub room : 64 ≤ length bytes
  pub states : StatesModel bytes b r opens χ
  pub zeros : Zeros (6 + b + 4 * r) 64 bytes

-- ---- 17
-- "count differs, mark not 0 or 1, denominator outside 1 to 1,000,000,000, numerator outside the amounts' range", and (iv), "allows 2
-- exactly there": the field whose first byte is at `place` is so
pub data BadField (bytes : List ℕ) (b r : ℕ) (opens : ℕ → Bool) (place : ℕ) : Type 0 where
  bad_booleans : place ≡ 0 → (field_at place 1 bytes ≡ b → ⊥) → BadField bytes b r opens place
  bad_open : (i : ℕ) → i < b → place ≡ 1 + i → T (opens i) → (field_at place 1 bytes ≡ 2 → ⊥) → BadField bytes b r opens place
  bad_boolean : (i : ℕ) → i < b → place ≡ 1 + i → T (not (opens i)) → 1 < field_at place 1 bytes → BadField bytes b r opens place
  bad_rationals : place ≡ 1 + b → (field_at place 1 bytes ≡ r → ⊥) → BadField bytes b r opens place
  bad_denominator : place ≡ 2 + b → (field_at place 4 bytes < 1) ⊎ (1000000000 < field_at place 4 bytes) → BadField bytes b r opens place
  bad_numerator : (f : ℕ) → f < r → place ≡ 6 + b + 4 * f → 1000000000 < nat_abs (from_unsigned (field_at place 4 bytes))
      → BadField bytes b r opens place

-- "first byte of the first such field"
pub record FirstBadField (bytes : List ℕ) (b r : ℕ) (opens : ℕ → Bool) (place : ℕ) : Type 0 where
  pub bad : BadField bytes b r opens place
  pub first : (earlier : ℕ) → earlier < place → BadField bytes b r opens earlier → ⊥
