-- 02, (vi): a first-edition problem carried over to the second edition, and a model of the new problem carried back.
use Rattle.std.specs.Prelude.{Bool, true, false, cond, ◌&&◌, ◌||◌, List, [], ◌∷◌, ◌++◌, map, ℕ, zero, suc, ◌+◌, ℤ, pos, neg_ℤ, ◌-ℤ◌, ltb}
use Rattle.std.specs.Prelude.{length, take, drop}
use Rattle.std.proofs.Math.Option.{Option, none, some}
use Rattle.std.specs.Int.Signed.{le_z}
use Rattle.rules_types.specs.declared.answers.Refusal.TheVariants as refusal
use Rattle.rules_types.specs.declared.answers.Converted.{Converted}
use Rattle.rules_types.specs.declared.answers.Converted.TheVariants as converted
use Rattle.rules_types.specs.declared.answers.Carried.{Carried}
use Rattle.rules_types.specs.declared.answers.Carried.TheVariants as carried
use Rattle.rules_types.specs.Limits as limit
use Rattle.rules.specs.Lists.{any, all}
use Rattle.rules.specs.Arithmetic.{is_negative, is_zero}
use Rattle.rules.specs.Bytes.{to_unsigned, from_unsigned}
use Rattle.rules.specs.Problem.{Literal, Relation, le, lt, eq, ge, Comparison, Clause, Problem, in_range, fault, got}
use Rattle.rules.specs.Written.{bytes_of, WrittenComparison, WrittenClause, WrittenProblem, fields_of, meaning}
use Rattle.rules.specs.Meaning.{Assignment}
use Rattle.rules.specs.Model.{is_open, encode_model, model}
use Rattle.rules.specs.Calls.{faulty, sound, read}

-- ---- which rational variables are kept
-- "a negative multiple of this figure alone"
unfoldable pub negative_alone : ℕ → List ℤ → Bool
negative_alone f [] = false
negative_alone zero (c ∷ cs) = is_negative c && all is_zero cs
negative_alone (suc f) (c ∷ cs) = is_zero c && negative_alone f cs

-- "written with relation 1 or 2": ≤ or <
unfoldable pub is_upper : Relation → Bool
is_upper le = true
is_upper lt = true
is_upper eq = false
is_upper ge = false

-- "as its sole condition a negative multiple of this figure alone, written with relation 1 or 2 and a bound of at most 0"
unfoldable pub sole_bound : ℕ → List Comparison → Bool
sole_bound f [] = false
sole_bound f (c ∷ []) = is_upper c.relation && le_z c.bound (pos 0) && negative_alone f c.coefficients
sole_bound f (c ∷ d ∷ cs) = false

-- "clause without literals"
unfoldable pub kept_by : ℕ → Clause → Bool
kept_by f c = elim c.literals [ [] ↦ sole_bound f c.comparisons | l ∷ ls ↦ false ]

-- "A converter keeps a figure if some clause" is so
unfoldable pub kept : Problem → ℕ → Bool
kept p f = any (kept_by f) p.clauses

-- ---- where a variable's halves stand: behind those of the variables before it, "the pair side by side"; and how many come of the first f
unfoldable pub place_of : (ℕ → Bool) → ℕ → ℕ
place_of keeps zero = 0
place_of keeps (suc f) = place_of keeps f + cond (keeps f) 1 2

-- ---- the new problem, as written
-- an amount's four bytes with its sign turned
unfoldable pub turned : ℕ → ℕ
turned n = to_unsigned (neg_ℤ (from_unsigned n))

-- "Any other figure becomes two, the first minus the second": of the coefficients from number f on
unfoldable pub split_row : (ℕ → Bool) → ℕ → List ℕ → List ℕ
split_row keeps f [] = []
split_row keeps f (n ∷ ns) = cond (keeps f) (n ∷ []) (n ∷ turned n ∷ []) ++ split_row keeps (suc f) ns

-- "all else is copied"
unfoldable pub split_comparison : (ℕ → Bool) → WrittenComparison → WrittenComparison
split_comparison keeps c =
    record { relation = c.relation; coefficients = split_row keeps 0 c.coefficients; bound = c.bound }

unfoldable pub split_clause : (ℕ → Bool) → WrittenClause → WrittenClause
split_clause keeps c = record { literals = c.literals; comparisons = map (split_comparison keeps) c.comparisons }

unfoldable pub split_problem : (ℕ → Bool) → WrittenProblem → WrittenProblem
split_problem keeps w =
    record {
      booleans = w.booleans;
      rationals = place_of keeps w.rationals;
      clauses = map (split_clause keeps) w.clauses;
    }

-- ---- a problem as it was written: the number of each field
unfoldable pub literal_code : Literal → ℕ
literal_code l = cond l.negated (128 + l.boolean) l.boolean

unfoldable pub relation_code : Relation → ℕ
relation_code le = 1
relation_code lt = 2
relation_code eq = 3
relation_code ge = 4

unfoldable pub written_comparison : ℕ → Comparison → WrittenComparison
written_comparison r c =
    record {
      relation = relation_code c.relation;
      coefficients = map to_unsigned (take r c.coefficients);
      bound = to_unsigned c.bound;
    }

unfoldable pub written_clause : ℕ → Clause → WrittenClause
written_clause r c =
    record { literals = map literal_code c.literals; comparisons = map (written_comparison r) c.comparisons }

unfoldable pub written_as : Problem → WrittenProblem
written_as p =
    record {
      booleans = p.booleans;
      rationals = p.rationals;
      clauses = map (written_clause p.rationals) p.clauses;
    }

-- ---- the new problem of a problem, and its bytes
unfoldable pub carried_over : Problem → WrittenProblem
carried_over p = split_problem (kept p) (written_as p)

unfoldable pub carried_over_bytes : Problem → List ℕ
carried_over_bytes p = bytes_of (fields_of (carried_over p))

-- 20: "over 8 figures result"
unfoldable pub over_rationals : Problem → Bool
over_rationals p = ltb limit.rationals (carried_over p).rationals

-- ---- converting: "It returns the new question's length."
pub record Converting : Type 0 where
  pub converted : Converted
  pub output : List ℕ

-- 21: "the result exceeds 32,768 bytes or the buffer"; "bytes past the result keep their content"
unfoldable pub converted_into : List ℕ → List ℕ → Converting
converted_into bytes output =
    elim (ltb limit.problem_bytes (length bytes) || ltb (length output) (length bytes)) [
      | true ↦ record { converted = converted.Refused refusal.OutputSpace 0; output = output }
      | false ↦ record { converted = converted.Length (length bytes); output = bytes ++ drop (length bytes) output }
    ]

-- the problem's faults, then 20, "then 21"; "both follow 13 and have place 0"
unfoldable pub convert : List ℕ → List ℕ → Converting
convert input output =
    elim (read input) [
      | faulty f place ↦ record { converted = converted.Refused f place; output = output }
      | sound p ↦ elim (over_rationals p) [
        | true ↦ record { converted = converted.Refused refusal.SplitRationals 0; output = output }
        | false ↦ converted_into (carried_over_bytes p) output
      ]
    ]

-- ---- carrying back: "by subtraction"
unfoldable pub carried_numerator : (ℕ → Bool) → (ℕ → ℤ) → ℕ → ℤ
carried_numerator keeps x f = let i = place_of keeps f in cond (keeps f) (x i) (x i -ℤ x (suc i))

-- "marks and denominator are kept"
unfoldable pub carried_back : (ℕ → Bool) → Assignment → Assignment
carried_back keeps χ =
    record { booleans = χ.booleans; numerators = carried_numerator keeps χ.numerators; denominator = χ.denominator }

-- 22: "a carried numerator leaves the range, ..., place the first such old figure", of k of them from number f on
unfoldable pub first_beyond : ℕ → ℕ → (ℕ → ℤ) → Option ℕ
first_beyond f zero x = none
first_beyond f (suc k) x = elim (in_range (x f)) [ true ↦ first_beyond (suc f) k x | false ↦ some f ]

pub record Carrying : Type 0 where
  pub carried : Carried
  pub model : List ℕ

-- "the target's other bytes up to 64 are 0"; those beyond keep their content
unfoldable pub carried_into : Problem → Assignment → List ℕ → Carrying
carried_into p χ target =
    elim (first_beyond 0 p.rationals χ.numerators) [
      | some f ↦ record { carried = carried.Refused refusal.CarriedRange f; model = target }
      | none ↦ record {
        carried = carried.Done;
        model = encode_model p.booleans p.rationals (is_open p) χ ++ drop limit.model_bytes target;
      }
    ]

-- "17 against the new question": its variables, and its open ones
unfoldable pub read_carried : Problem → List ℕ → List ℕ → Carrying
read_carried p bytes target =
    let new = meaning (carried_over p) in
    elim (model new.booleans new.rationals (is_open new) bytes 0) [
      | fault f place ↦ record { carried = carried.Refused f place; model = target }
      | got χ rest place ↦ carried_into p (carried_back (kept p) χ) target
    ]

-- "after 13 it tests 20, then 2 on both sheets, then 17 against the new question"
unfoldable pub carry_back : List ℕ → List ℕ → List ℕ → Carrying
carry_back input bytes target =
    elim (read input) [
      | faulty f place ↦ record { carried = carried.Refused f place; model = target }
      | sound p ↦ elim (over_rationals p) [
        | true ↦ record { carried = carried.Refused refusal.SplitRationals 0; model = target }
        | false ↦ elim (ltb (length bytes) limit.model_bytes || ltb (length target) limit.model_bytes) [
          | true ↦ record { carried = carried.Refused refusal.ShortModel 0; model = target }
          | false ↦ read_carried p bytes target
        ]
      ]
    ]
