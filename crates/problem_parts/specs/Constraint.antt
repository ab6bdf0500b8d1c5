-- A row read from bytes, from the front; and the constraint that the comparison at a place is read as by its words.
use Rattle.std.specs.Prelude.{◌≡◌, refl, Bool, true, false, cond, ℕ, zero, suc, ◌+◌, ◌*◌, ◌-◌, ◌≤◌, ◌<◌, ℤ, pos, length, get_or, replicate}
use Rattle.std.specs.Prelude.{set}
use Rattle.std.proofs.Common.{sym, ◌∙◌, suc-mul, add-one, arith}
use Rattle.std.proofs.Math.Path.{ap}
use mathlib.Core.List.{List, [], ◌∷◌, ◌++◌, map}
use Rattle.std.proofs.Math.Option.{Option, none, some}
use Rattle.std.proofs.Math.Dec.{eqb}
use Rattle.rules_types.specs.Limits as limit
use Rattle.rules_types.specs.Layout as layout
use Rattle.rules.specs.Problem.{Constraint, relation_of}
use Rattle.rules.specs.Readings.{is_strict, turns, signed, read_as}
use Rattle.rules.specs.Lines as rules
use Rattle.theory_vectors.specs.Signed.{abs-signed, get_or-signed}
use Rattle.masks.specs.Mask.{bits}
use Rattle.problem_scan.specs.Values.{values_at, behind, behind-is, amount_at, bound_of, comparison_at, constraint_at}
use Rattle.problem_clauses.specs.Passes.{length-values}
use Rattle.lines.specs.declared.line.Line.{Line}
use Rattle.lines.specs.Line.{constraint_of, meaning, Ready}
use Rattle.lines.specs.Forms.{constraint-at}

abbrev pub line_of : ℕ → ℕ → Option Constraint → rules.Line
line_of positive negative constraint =
    record { positive = bits limit.all_booleans positive; negative = bits limit.all_booleans negative; constraint = constraint }

-- ---- a row of so many amounts; one amount more: the first 0 behind those that are read is written over
abbrev pub read_row : List ℕ → ℕ → ℕ → List ℤ
read_row q from i = values_at (amount_at q) 4 i from ++ replicate (limit.rationals - i) (pos 0)

-- the first i of them are read, and `at` is the place of the next
pub record RowRead (q : List ℕ) (from count : ℕ) (out : List ℤ) (at i : ℕ) : Type 0 where
  pub few : i ≤ count
  pub place : at ≡ from + i * 4
  pub same : out ≡ read_row q from i

values-last : {A : Type 0} (one : ℕ → A) (size k at : ℕ)
    → values_at one size (suc k) at ≡ values_at one size k at ++ (one (at + k * size) ∷ [])
unfolding values_at
values-last one size zero at = let e : at + 0 * size ≡ at = omega arith in rw e
values-last one size (suc k) at =
    let e : at + size + k * size ≡ at + suc k * size = omega (arith, suc-mul k size) in
    ap (λ (xs : List _). one at ∷ xs)
    (values-last one size k (at + size) ∙ ap (λ (i : ℕ). values_at one size k (at + size) ++ (one i ∷ [])) e)

set_first : (xs : List ℤ) (n : ℕ) (z : ℤ) → set (xs ++ replicate (suc n) (pos 0)) (length xs) z ≡ (xs ++ (z ∷ [])) ++ replicate n (pos 0)
set_first [] n z = refl
set_first (x ∷ xs) n z = ap (λ (ys : List ℤ). x ∷ ys) (set_first xs n z)

row_next : (q : List ℕ) (from i at : ℕ) (z : ℤ) → i < limit.rationals → at ≡ from + i * 4 → z ≡ amount_at q at
    → set (read_row q from i) i z ≡ read_row q from (i + 1)
row_next q from i at z h e v =
    let vs = values_at (amount_at q) 4 i from in
    let n : limit.rationals - i ≡ suc (limit.rationals - (i + 1)) = omega arith in
    ap (λ (k : ℕ). set (vs ++ replicate k (pos 0)) i z) n
    ∙ ap (λ (k : ℕ). set (vs ++ replicate (suc (limit.rationals - (i + 1))) (pos 0)) k z) (sym (length-values (amount_at q) 4 i from))
    ∙ set_first vs (limit.rationals - (i + 1)) z
    ∙ ap (λ (y : ℤ). (vs ++ (y ∷ [])) ++ replicate (limit.rationals - (i + 1)) (pos 0)) (v ∙ ap (amount_at q) e)
    ∙ ap (λ (xs : List ℤ). xs ++ replicate (limit.rationals - (i + 1)) (pos 0)) (sym (values-last (amount_at q) 4 i from))
    ∙ ap (λ (k : ℕ). values_at (amount_at q) 4 k from ++ replicate (limit.rationals - (i + 1)) (pos 0)) (sym (add-one i))

module _ (q : List ℕ) (from count : ℕ) (out : List ℤ) (at i : ℕ) (run : RowRead q from count out at i) where
  pub row_within : i < count → at + 4 ≤ behind 4 count from
  row_within h = omega (arith, run.place, behind-is 4 count from)

  pub row_more : (z : ℤ) → i < count → count ≤ limit.rationals → z ≡ amount_at q at → RowRead q from count (set out i z) (at + 4) (i + 1)
  row_more z h k v =
      record {
        few = omega arith;
        place = omega (arith, run.place);
        same = ap (λ (zs : List ℤ). set zs i z) run.same ∙ row_next q from i at z (omega arith) run.place v;
      }

  pub row_done : count ≤ i → out ≡ read_row q from count
  row_done h = let e : i ≡ count = omega (arith, run.few) in run.same ∙ ap (read_row q from) e

-- ---- a constraint by its words
-- a line with all signs turned
abbrev pub turned_line : Line → Line
turned_line l = record {
  positive = l.positive;
  negative = l.negative;
  relation = l.relation;
  coefficients = map (signed true) l.coefficients;
  bound = signed true l.bound;
}

-- a line's relation byte: 1 or 2
strict-byte : (t : Bool) → (0 < cond t 2 1) × (cond t 2 1 ≤ 2) × (eqb (cond t 2 1) 2 ≡ t)
strict-byte true = (omega arith, omega arith, refl)
strict-byte false = (omega arith, omega arith, refl)

module _ (q : List ℕ) (second : Bool) (r at n : ℕ) (relation-is : n ≡ cond (is_strict (relation_of (get_or q at 0))) 2 1) where
  abbrev strict : Bool
  strict = is_strict (relation_of (get_or q at 0))

  pub relation-within : (0 < n) × (n ≤ 2)
  relation-within = let s = strict-byte strict in rw relation-is (s.0, s.1)

  -- the row and the bound as written, their signs turned or not
  module _ (turned : Bool) (turns-is : turned ≡ turns second (relation_of (get_or q at 0))) (cs : List ℤ) (b : ℤ)
      (row_is : cs ≡ map (signed turned) (read_row q (at + layout.comparison_coefficients) r))
      (bound-is : b ≡ signed turned (comparison_at q r at).bound) where
    pub constraint-words : constraint_of n cs b ≡ some (constraint_at q second r at)
    unfolding comparison_at read_as
    constraint-words =
        constraint-at n cs b relation-within.0 ∙ (λ i. some (record {
          strict = (ap (λ (k : ℕ). eqb k 2) relation-is ∙ (strict-byte strict).2) i;
          coefficients =
              (row_is ∙ ap (λ (t : Bool). map (signed t) (read_row q (at + layout.comparison_coefficients) r)) turns-is) i;
          bound = (bound-is ∙ ap (λ (t : Bool). signed t (amount_at q (bound_of q r at))) turns-is) i;
        }))

-- a line that a proof can hold is one with its signs turned
pub turned-ready : (l : Line) → Ready l → Ready (turned_line l)
unfolding signed
turned-ready l h =
    record {
      shaped = record {
        related = h.shaped.related;
        coefficients = λ e. ap (map (signed true)) (h.shaped.coefficients e);
        bound = λ e. ap (signed true) (h.shaped.bound e);
      };
      coefficients = record {
        small = λ i. rw (get_or-signed true l.coefficients i, abs-signed true (get_or l.coefficients i (pos 0)))
            (h.coefficients.small i);
      };
      bound = rw (abs-signed true l.bound) h.bound;
    }

-- the coefficients of a line that has a constraint
row_of : Option Constraint → List ℤ
row_of none = []
row_of (some c) = c.coefficients

pub coefficients-of : (l : Line) (c : Constraint) → (meaning l).constraint ≡ some c → l.coefficients ≡ c.coefficients
unfolding meaning constraint_of row_of
coefficients-of l c = by l.relation
  where
    by : (r : ℕ) → constraint_of r l.coefficients l.bound ≡ some c → l.coefficients ≡ c.coefficients
    by zero e = let z : ◌≡◌ {A = ℕ} 0 1 = cc in absurd (omega arith)
    by (suc r) e = ap row_of e
