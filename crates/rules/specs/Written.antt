-- The problem as written: every field as it stands, whatever its number, before any is tested; its bytes; and what it means.
use Rattle.std.specs.Prelude.{Bool, false, not, cond, ◌&&◌, ◌||◌, List, [], ◌∷◌, ◌++◌, map, ℕ, ◌+◌, ◌-◌, ◌%◌, pos, eqb, leb, ltb, length}
use Rattle.std.specs.Prelude.{replicate}
use Rattle.rules_types.specs.declared.answers.Refusal.{Refusal}
use Rattle.rules_types.specs.declared.answers.Refusal.TheVariants as refusal
use Rattle.rules_types.specs.Limits as limit
use Rattle.rules_types.specs.Layout as layout
use Rattle.rules.specs.Lists.{concat}
use Rattle.rules.specs.Bytes.{to_bytes, from_unsigned}
use Rattle.rules.specs.Problem.{Literal, Comparison, Clause, Problem, in_range, relation_of}

-- ---- fields
-- a number in so many bytes; whether it is within its limits; and the fault where it is not
pub record Field : Type 0 where
  pub size : ℕ
  pub number : ℕ
  pub within : Bool
  pub fault : Refusal

abbrev pub field_bytes : Field → List ℕ
field_bytes x = to_bytes x.size x.number

unfoldable pub bytes_of : List Field → List ℕ
bytes_of xs = concat (map field_bytes xs)

-- ---- what is written, and its fields in order
-- "a relation byte (1 is ≤, 2 is <), r coefficients, one bound"; "Relation 3 shall mean =, 4 ≥"
pub record WrittenComparison : Type 0 where
  pub relation : ℕ
  pub coefficients : List ℕ
  pub bound : ℕ

-- "each clause: a byte m, 0 to 32, then m literals of one byte"; "a byte t, 0 to 8, then t conditions"
pub record WrittenClause : Type 0 where
  pub literals : List ℕ
  pub comparisons : List WrittenComparison

-- "byte: b, the marks, 0 to 16. Byte: r, the figures, 0 to 8. Two bytes: n, the clauses, 0 to 256."
pub record WrittenProblem : Type 0 where
  pub booleans : ℕ
  pub rationals : ℕ
  pub clauses : List WrittenClause

-- 11: "outside the range"
unfoldable pub amount_fields : ℕ → List Field
amount_fields n = record { size = 4; number = n; within = in_range (from_unsigned n); fault = refusal.Amount } ∷ []

-- 10: "Refusal 10 narrows to other bytes"; 18: "a second = in one clause, raised at its relation byte right after 10", where `equated`
-- says that one stands before it
unfoldable pub relation_field : Bool → ℕ → Field
relation_field equated n =
    let known = leb 1 n && leb n 4 in
    record {
      size = 1;
      number = n;
      within = known && not (equated && eqb n 3);
      fault = cond known refusal.SecondEquality refusal.Relation;
    }

unfoldable pub comparison_fields : Bool → WrittenComparison → List Field
comparison_fields equated c =
    relation_field equated c.relation ∷ (concat (map amount_fields c.coefficients) ++ amount_fields c.bound)

unfoldable pub comparisons_fields : Bool → List WrittenComparison → List Field
comparisons_fields equated [] = []
comparisons_fields equated (c ∷ cs) = comparison_fields equated c ++ comparisons_fields (equated || eqb c.relation 3) cs

-- 8: "m over 32 or mark not below b"
unfoldable pub literal_fields : ℕ → ℕ → List Field
literal_fields b code = record { size = 1; number = code; within = ltb (code % 128) b; fault = refusal.Literal } ∷ []

unfoldable pub literals_fields : ℕ → List ℕ → List Field
literals_fields b codes =
    let m = length codes in
    record { size = 1; number = m; within = leb m limit.literals; fault = refusal.Literal } ∷ concat (map (literal_fields b) codes)

-- 9: "t over 8"
unfoldable pub comparison_list_fields : List WrittenComparison → List Field
comparison_list_fields cs =
    let t = length cs in
    record { size = 1; number = t; within = leb t limit.comparisons; fault = refusal.Comparisons } ∷ comparisons_fields false cs

unfoldable pub clause_fields : ℕ → WrittenClause → List Field
clause_fields b c = literals_fields b c.literals ++ comparison_list_fields c.comparisons

-- 5: "b over 16"; 6: "r over 8"; 7: "n over 256"
unfoldable pub header_fields : ℕ → ℕ → ℕ → List Field
header_fields b r n =
    record { size = 1; number = b; within = leb b limit.booleans; fault = refusal.Booleans }
    ∷ record { size = 1; number = r; within = leb r limit.rationals; fault = refusal.Rationals }
    ∷ record { size = 2; number = n; within = leb n limit.clauses; fault = refusal.Clauses }
    ∷ []

unfoldable pub fields_of : WrittenProblem → List Field
fields_of w =
    header_fields w.booleans w.rationals (length w.clauses) ++ concat (map (clause_fields w.booleans) w.clauses)

-- ---- what it means
-- "the mark's number, plus 128 if negated"
unfoldable pub literal_meant : ℕ → Literal
literal_meant code = record { boolean = code % 128; negated = leb 128 code }

-- "sum of coefficient × figure, relation, bound", with coefficients 0 from r on
unfoldable pub comparison_meant : WrittenComparison → Comparison
comparison_meant c =
    record {
      relation = relation_of c.relation;
      coefficients = map from_unsigned c.coefficients ++ replicate (limit.rationals - length c.coefficients) (pos 0);
      bound = from_unsigned c.bound;
    }

unfoldable pub clause_meant : ℕ → WrittenClause → Clause
clause_meant start c =
    record { start = start; literals = map literal_meant c.literals; comparisons = map comparison_meant c.comparisons }

-- each clause starts where the one before it ends
unfoldable pub clauses_meant : ℕ → ℕ → List WrittenClause → List Clause
clauses_meant b start [] = []
clauses_meant b start (c ∷ cs) = clause_meant start c ∷ clauses_meant b (start + length (bytes_of (clause_fields b c))) cs

unfoldable pub meaning : WrittenProblem → Problem
meaning w =
    record {
      booleans = w.booleans;
      rationals = w.rationals;
      clauses = clauses_meant w.booleans layout.first_clause w.clauses;
    }
