-- Reading names refusals 3 to 13 and 18 alone.
use Rattle.std.specs.Prelude.{◌≡◌, refl, Bool, true, false, cond, ◌&&◌, ◌||◌, List, [], ◌∷◌, map, ℕ, ◌≤◌, eqb, leb, length}
use Rattle.std.proofs.Common.{sym, subst, arith}
use Rattle.rules_types.specs.declared.answers.Refusal.{Refusal}
use Rattle.rules_types.specs.declared.answers.Refusal.TheVariants as refusal
use Rattle.rules_types.specs.Answers.{refusal_number}
use Rattle.rules.specs.Lists.{concat}
use Rattle.rules.specs.Written.{Field, WrittenComparison, WrittenClause, WrittenProblem, amount_fields, relation_field, comparison_fields}
use Rattle.rules.specs.Written.{comparisons_fields, comparison_list_fields}
use Rattle.rules.specs.Written.{literal_fields, literals_fields, clause_fields, header_fields, fields_of}
use Rattle.theory_lists.specs.All.{All, all_append, append-all}
use Rattle.theory_reading.specs.Statements.{Outside, FirstFault, long, cut, outside, trailing, over-splits}

-- 3 to 13; 18: "wherever 3 to 13 are named, it is one of them"
pub data Named (f : Refusal) : Type 0 where
  to-13 : 3 ≤ refusal_number f → refusal_number f ≤ 13 → Named f
  is-18 : refusal_number f ≡ 18 → Named f

abbrev AllNamed : List Field → Type 0
AllNamed xs = All (λ x. Named x.fault) xs

each : {A : Type 0} (fields : A → List Field) → ((a : A) → AllNamed (fields a)) → (xs : List A) → AllNamed (concat (map fields xs))
unfolding concat
each fields h [] = tt
each fields h (x ∷ xs) = all_append (λ x. Named x.fault) (fields x) (concat (map fields xs)) (h x) (each fields h xs)

amount-named : (n : ℕ) → AllNamed (amount_fields n)
unfolding amount_fields refusal_number
amount-named n = (to-13 (omega arith) (omega arith), tt)

-- 10 or 18
relation-named : (equated : Bool) (n : ℕ) → Named (relation_field equated n).fault
unfolding relation_field refusal_number
relation-named equated n = by (leb 1 n && leb n 4)
  where
    by : (known : Bool) → Named (cond known refusal.SecondEquality refusal.Relation)
    by true = is-18 refl
    by false = to-13 (omega arith) (omega arith)

comparisons-named : (equated : Bool) (cs : List WrittenComparison) → AllNamed (comparisons_fields equated cs)
unfolding comparisons_fields comparison_fields
comparisons-named equated [] = tt
comparisons-named equated (c ∷ cs) =
    all_append (λ x. Named x.fault) (comparison_fields equated c) (comparisons_fields (equated || eqb c.relation 3) cs) (
      relation-named equated c.relation,
      all_append (λ x. Named x.fault) (concat (map amount_fields c.coefficients)) (amount_fields c.bound)
          (each amount_fields amount-named c.coefficients) (amount-named c.bound),
    ) (comparisons-named (equated || eqb c.relation 3) cs)

literal-named : (b code : ℕ) → AllNamed (literal_fields b code)
unfolding literal_fields refusal_number
literal-named b code = (to-13 (omega arith) (omega arith), tt)

clause-named : (b : ℕ) (c : WrittenClause) → AllNamed (clause_fields b c)
unfolding clause_fields literals_fields comparison_list_fields refusal_number
clause-named b c =
    all_append (λ x. Named x.fault) (literals_fields b c.literals) (comparison_list_fields c.comparisons)
    (to-13 (omega arith) (omega arith), each (literal_fields b) (literal-named b) c.literals)
    (to-13 (omega arith) (omega arith), comparisons-named false c.comparisons)

fields-named : (w : WrittenProblem) → AllNamed (fields_of w)
unfolding fields_of header_fields refusal_number
fields-named w =
    all_append (λ x. Named x.fault) (header_fields w.booleans w.rationals (length w.clauses))
    (concat (map (clause_fields w.booleans) w.clauses)) (
      to-13 (omega arith) (omega arith),
      (to-13 (omega arith) (omega arith), (to-13 (omega arith) (omega arith), tt)),
    ) (each (clause_fields w.booleans) (clause-named w.booleans) w.clauses)

outside-named : (input : List ℕ) (f : Refusal) (place : ℕ) → Outside input f place → Named f
outside-named input f place h =
    let r = h.reaches in
    subst Named (sym h.fault-is)
    (append-all (λ x. Named x.fault) h.before (h.it ∷ r.after)
    (subst AllNamed r.fields (fields-named r.written))).1.0

pub fault-named : (input : List ℕ) (f : Refusal) (place : ℕ) → FirstFault input f place → Named f
unfolding refusal_number
fault-named input f place (long l e q) = subst Named (sym e) (to-13 (omega arith) (omega arith))
fault-named input f place (cut few h) = subst Named (sym h.fault-is) (to-13 (omega arith) (omega arith))
fault-named input f place (outside few h) = outside-named input f place h
fault-named input f place (trailing few h) = subst Named (sym h.fault-is) (to-13 (omega arith) (omega arith))
fault-named input f place (over-splits few h) = subst Named (sym h.fault-is) (to-13 (omega arith) (omega arith))
