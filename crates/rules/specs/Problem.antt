-- The problem ("the question"): what it consists of, and its bytes read field by field to the first fault 4 to 12 or 18 with its place.
use Rattle.std.specs.Prelude.{Bool, true, false, not, cond, ◌&&◌, ◌||◌, List, [], ◌∷◌, ◌++◌, ℕ, zero, suc, ◌+◌, ◌*◌, ◌-◌, ◌%◌, ℤ, pos}
use Rattle.std.specs.Prelude.{nat_abs, eqb, leb, ltb, replicate}
use Rattle.rules_types.specs.declared.answers.Refusal.{Refusal}
use Rattle.rules_types.specs.declared.answers.Refusal.TheVariants as refusal
use Rattle.rules_types.specs.declared.terms.Edition.{Edition}
use Rattle.rules_types.specs.declared.terms.Edition.TheVariants.{First, Second}
use Rattle.rules_types.specs.Limits as limit
use Rattle.rules.specs.Lists.{tabulate}
use Rattle.rules.specs.Bytes.{from_unsigned}

-- ---- what a problem consists of
-- a Boolean variable, or a Boolean variable negated
pub record Literal : Type 0 where
  pub boolean : ℕ
  pub negated : Bool

-- ≤, <, =, ≥
pub data Relation : Type 0 where
  le lt eq ge : Relation

-- a comparison ("condition"), as written: sum of coefficient × rational variable, relation, bound; eight coefficients, 0 from r on
pub record Comparison : Type 0 where
  pub relation : Relation
  pub coefficients : List ℤ
  pub bound : ℤ

-- a constraint, what a comparison is read as and a line holds: ≤ or (strict) <
pub record Constraint : Type 0 where
  pub strict : Bool
  pub coefficients : List ℤ
  pub bound : ℤ

-- a clause as written; `start` is the place of its first byte
pub record Clause : Type 0 where
  pub start : ℕ
  pub literals : List Literal
  pub comparisons : List Comparison

-- b, r and the clauses
pub record Problem : Type 0 where
  pub booleans : ℕ
  pub rationals : ℕ
  pub clauses : List Clause

-- ---- 02, (v): the edition
-- "figure ... is ≥ 0", with no bytes in the problem; its start is the place of none
unfoldable pub non_negative : ℕ → Clause
non_negative f =
    let row = tabulate limit.rationals (λ i. cond (eqb i f) (pos 1) (pos 0)) in
    record { start = 0; literals = []; comparisons = record { relation = ge; coefficients = row; bound = pos 0 } ∷ [] }

-- "In edition 2, after clause n - 1, clauses n to n + r - 1 state that figure 0, 1 and so on is ≥ 0"
unfoldable pub added : Edition → ℕ → List Clause
added First r = []
added Second r = tabulate r non_negative

-- the problem that is posed in an edition: "they load like others", and ""Satisfies" is meant per edition"
abbrev pub in_edition : Edition → Problem → Problem
in_edition edition p = record {
  booleans = p.booleans;
  rationals = p.rationals;
  clauses = p.clauses ++ added edition p.rationals;
}

-- ---- reading
-- a fault with its place; or a value, the bytes left, and the place of the next one
pub data Read (A : Type 0) : Type 0 where
  fault : Refusal → ℕ → Read A
  got : A → List ℕ → ℕ → Read A

abbrev pub Reader : Type 0 → Type 0
Reader A = List ℕ → ℕ → Read A

module _ {A B : Type 0} where
  unfoldable pub after : Read A → (A → Reader B) → Read B
  after (fault f place) next = fault f place
  after (got a bytes place) next = next a bytes place

  abbrev pub ◌>>=◌ : Reader A → (A → Reader B) → Reader B
  ◌>>=◌ first next = λ bytes place. after (first bytes place) next

module _ {A : Type 0} where
  abbrev pub return : A → Reader A
  return a = λ bytes place. got a bytes place

module _ {A : Type 0} where
  -- one after another, k times
  unfoldable pub repeat : ℕ → Reader A → Reader (List A)
  repeat zero one = return []
  repeat (suc k) one = do
    x ← one
    xs ← repeat k one
    return (x ∷ xs)

  -- k of them by their numbers, from i on
  unfoldable pub each : ℕ → ℕ → (ℕ → Reader A) → Reader (List A)
  each i zero one = return []
  each i (suc k) one = do
    x ← one i
    xs ← each (suc i) k one
    return (x ∷ xs)

-- 4: "question ends before a field is complete; its length"
unfoldable pub byte : Reader ℕ
byte [] place = fault refusal.Truncated place
byte (x ∷ bytes) place = got x bytes (suc place)

unfoldable pub number : ℕ → Reader ℕ
number zero = return 0
number (suc k) = do
  x ← byte
  rest ← number k
  return (x + 256 * rest)

-- a field of so many bytes; where its value fails the test, the fault at the field's first byte
unfoldable pub tested : Bool → Refusal → ℕ → ℕ → Reader ℕ
tested true f place value = return value
tested false f place value = λ bytes next. fault f place

unfoldable pub field : ℕ → (ℕ → Bool) → Refusal → Reader ℕ
field size good f = λ bytes place. after (number size bytes place) (λ value. tested (good value) f place value)

-- "Amounts lie in -1,000,000,000 to 1,000,000,000."
unfoldable pub in_range : ℤ → Bool
in_range z = leb (nat_abs z) limit.amount

unfoldable pub amount : Refusal → Reader ℤ
amount f = do
  n ← field 4 (λ n. in_range (from_unsigned n)) f
  return (from_unsigned n)

-- "the mark's number, plus 128 if negated"
unfoldable pub literal : ℕ → Reader Literal
literal b = do
  code ← field 1 (λ code. ltb (code % 128) b) refusal.Literal
  return (record { boolean = code % 128; negated = leb 128 code })

-- "1 is ≤, 2 is <"; "Relation 3 shall mean =, 4 ≥"; 10: "other bytes"
unfoldable pub is_relation : ℕ → Bool
is_relation n = leb 1 n && leb n 4

unfoldable pub relation_of : ℕ → Relation
relation_of n = cond (eqb n 2) lt (cond (eqb n 3) eq (cond (eqb n 4) ge le))

unfoldable pub is_equality : Relation → Bool
is_equality le = false
is_equality lt = false
is_equality eq = true
is_equality ge = false

-- 18: "a second = in one clause, raised at its relation byte right after 10"; `equated` says that an = stands before it in the clause
unfoldable pub relation : Bool → Reader Relation
relation equated = λ bytes place. after (field 1 is_relation refusal.Relation bytes place) (second place)
  where
    second : ℕ → ℕ → Reader Relation
    second place n = do
      code ← tested (not (equated && is_equality (relation_of n))) refusal.SecondEquality place n
      return (relation_of code)

-- "a relation byte ..., r coefficients, one bound"
unfoldable pub comparison : Bool → ℕ → Reader Comparison
comparison equated r = do
  relation ← relation equated
  coefficients ← repeat r (amount refusal.Amount)
  bound ← amount refusal.Amount
  return (record { relation = relation; coefficients = coefficients ++ replicate (limit.rationals - r) (pos 0); bound = bound })

-- k of them
unfoldable pub comparisons : ℕ → Bool → ℕ → Reader (List Comparison)
comparisons zero equated r = return []
comparisons (suc k) equated r = do
  c ← comparison equated r
  cs ← comparisons k (equated || is_equality c.relation) r
  return (c ∷ cs)

-- "a byte m, 0 to 32, then m literals"; "a byte t, 0 to 8, then t conditions"
unfoldable pub clause : ℕ → ℕ → Reader Clause
clause b r = λ bytes start. body start bytes start
  where
    body : ℕ → Reader Clause
    body start = do
      m ← field 1 (λ m. leb m limit.literals) refusal.Literal
      literals ← repeat m (literal b)
      t ← field 1 (λ t. leb t limit.comparisons) refusal.Comparisons
      comparisons ← comparisons t false r
      return (record { start = start; literals = literals; comparisons = comparisons })

-- 12: "bytes follow the last clause; the first"
unfoldable pub end : Problem → Reader Problem
end problem [] place = got problem [] place
end problem (x ∷ bytes) place = fault refusal.Trailing place

-- "byte: b, the marks, 0 to 16. Byte: r, the figures, 0 to 8. Two bytes: n, the clauses, 0 to 256."
unfoldable pub problem : Reader Problem
problem = do
  b ← field 1 (λ b. leb b limit.booleans) refusal.Booleans
  r ← field 1 (λ r. leb r limit.rationals) refusal.Rationals
  n ← field 2 (λ n. leb n limit.clauses) refusal.Clauses
  clauses ← repeat n (clause b r)
  end (record { booleans = b; rationals = r; clauses = clauses })
