-- The readers of rules/Problem judged by the fields of rules/Written.
use Rattle.std.specs.Prelude.{◌≡◌, refl, Bool, false, not, cond, ◌&&◌, ◌||◌, List, [], ◌∷◌, map, ℕ, zero, suc, ◌+◌, eqb, length}
use Rattle.std.proofs.Common.{sym, ap, ◌∙◌, append-nil, arith}
use Rattle.rules_types.specs.declared.answers.Refusal.TheVariants as refusal
use Rattle.rules_types.specs.Layout as layout
use Rattle.rules.specs.Lists.{concat}
use Rattle.rules.specs.Bytes.{to_bytes, from_unsigned}
use Rattle.rules.specs.Problem.{Clause, Problem, after, return, number, field, amount, literal}
use Rattle.rules.specs.Problem.{is_relation, relation_of, is_equality, relation, comparison, comparisons, clause, end, problem}
use Rattle.rules.specs.Written.{bytes_of, WrittenClause, WrittenProblem, amount_fields, relation_field, comparison_fields}
use Rattle.rules.specs.Written.{comparisons_fields}
use Rattle.rules.specs.Written.{literal_fields, literals_fields, comparison_list_fields, clause_fields, header_fields, fields_of}
use Rattle.rules.specs.Written.{literal_meant, comparison_meant, clause_meant, clauses_meant}
use Rattle.theory_lists.specs.All.{All, every}
use Rattle.theory_bytes.specs.Relations.{equality-code}
use Rattle.theory_reading.specs.Judged.{Judged, then-judged, rest-judged, last-judged, same-judged, renamed-judged}
use Rattle.theory_reading.specs.Several.{Made, means, none-judged, more-judged, repeat-judged, list-judged}
use Rattle.theory_reading.specs.Fields.{tried, tried-judged, field-judged, tried-twice}

amount-judged : Judged (amount refusal.Amount) amount_fields (λ n. Unit {0}) (λ place n. return (from_unsigned n))
unfolding amount amount_fields
amount-judged = last-judged _ (field-judged _ _ _)

literal-judged : (b : ℕ) → Judged (literal b) (literal_fields b) (λ n. Unit {0}) (λ place n. return (literal_meant n))
unfolding literal literal_fields literal_meant
literal-judged b = last-judged _ (field-judged _ _ _)

-- 10, then 18
relation-tried : (equated : Bool) (input : List ℕ) (place : ℕ) → relation equated input place
    ≡ after (tried 1 (λ n. is_relation n && not (equated && eqb n 3)) (λ n. cond (is_relation n) refusal.SecondEquality refusal.Relation)
    input place) (λ n. return (relation_of n))
unfolding relation field
relation-tried equated input place =
    tried-twice is_relation (λ n. equated && is_equality (relation_of n)) relation_of refusal.Relation refusal.SecondEquality place
    (number 1 input place)
    ∙ λ i. after (tried 1 (λ n. is_relation n && not (equated && equality-code n i))
    (λ n. cond (is_relation n) refusal.SecondEquality refusal.Relation) input place) (λ n. return (relation_of n))

relation-judged : (equated : Bool)
    → Judged (relation equated) (λ n. relation_field equated n ∷ []) (λ n. Unit {0}) (λ place n. return (relation_of n))
unfolding relation_field is_relation
relation-judged equated = same-judged (relation-tried equated) (last-judged relation_of (tried-judged _ _ _))

comparison-judged : (equated : Bool) (r : ℕ)
    → Judged (comparison equated r) (comparison_fields equated) (λ c. length c.coefficients ≡ r) (λ place c. return (comparison_meant c))
unfolding comparison comparison_fields comparison_meant
comparison-judged equated r =
    renamed-judged
    (then-judged _ (relation-judged equated) (λ place relation p.
    then-judged _ (list-judged amount-judged r) (λ place cs q.
    last-judged _ amount-judged)))
    _ _ _
    (λ w p. record {
      name = record { relation = w.0; coefficients = w.1.0; bound = w.1.1 };
      made = p.1.0.0;
      fields = refl;
      lasts = λ place. rw p.1.0.0;
    })
    (λ c p. record {
      name = (c.relation, (c.coefficients, c.bound));
      made = (tt, ((p, every (λ n. Unit {0}) c.coefficients (λ n. tt)), tt));
      fields = refl;
      lasts = λ place. rw p;
    })

comparisons-judged : (k : ℕ) (equated : Bool) (r : ℕ)
    → Judged (comparisons k equated r) (comparisons_fields equated)
    (Made (λ c. length c.coefficients ≡ r) k) (λ place cs. return (map comparison_meant cs))
unfolding comparisons comparisons_fields comparison_meant
comparisons-judged zero equated r = none-judged (λ c. length c.coefficients ≡ r) _ _ refl (λ place. refl)
comparisons-judged (suc k) equated r =
    more-judged _ (comparison-judged equated r)
    (λ place c p. comparisons-judged k (equated || is_equality (comparison_meant c).relation) r) _ _
    (λ c cs. rw (equality-code c.relation)) (λ place c cs. refl)

-- ---- clauses
abbrev pub HasCoefficients : ℕ → WrittenClause → Type 0
HasCoefficients r c = All (λ k. length k.coefficients ≡ r) c.comparisons

clause-judged : (b r : ℕ) → Judged (clause b r) (clause_fields b) (HasCoefficients r) (λ place c. return (clause_meant place c))
unfolding clause clause_fields literals_fields comparison_list_fields clause_meant
clause-judged b r =
    renamed-judged
    (then-judged _ (field-judged _ _ _) (λ start m p.
    then-judged _ (list-judged (literal-judged b) m) (λ place codes q.
    then-judged _ (field-judged _ _ _) (λ place t p.
    last-judged _ (comparisons-judged t false r)))))
    _ _ _
    (λ w p. record {
      name = record { literals = w.1.0; comparisons = w.1.1.1 };
      made = p.1.1.1.1;
      fields = rw (p.1.0.0, p.1.1.1.0);
      lasts = λ place. refl;
    })
    (λ c p. record {
      name = (length c.literals, (c.literals, (length c.comparisons, c.comparisons)));
      made = (tt, ((refl, every (λ n. Unit {0}) c.literals (λ n. tt)), (tt, (refl, p))));
      fields = refl;
      lasts = λ place. refl;
    })

-- ---- problems
clauses-means : (b place : ℕ) (cs : List WrittenClause) → means clause_meant (clause_fields b) place cs ≡ clauses_meant b place cs
unfolding clauses_meant
clauses-means b place [] = refl
clauses-means b place (c ∷ cs) =
    ap (λ (l : List Clause). clause_meant place c ∷ l) (clauses-means b (place + length (bytes_of (clause_fields b c))) cs)

abbrev pub meaning_from : ℕ → WrittenProblem → Problem
meaning_from place w = record {
  booleans = w.booleans;
  rationals = w.rationals;
  clauses = clauses_meant w.booleans (place + layout.first_clause) w.clauses;
}

-- the places of the four fields, summed
behind-header : (place : ℕ) (w : WrittenProblem) → end (meaning_from place w) ≡ end (record {
  booleans = w.booleans;
  rationals = w.rationals;
  clauses = means clause_meant (clause_fields w.booleans) (place + 1 + 1 + 2) w.clauses;
})
behind-header place w =
    let e : place + 1 + 1 + 2 ≡ place + layout.first_clause = omega arith in
    rw (e, clauses-means w.booleans (place + layout.first_clause) w.clauses)

pub problem-judged : Judged problem fields_of (λ w. All (HasCoefficients w.rationals) w.clauses) (λ place w. end (meaning_from place w))
unfolding problem fields_of header_fields bytes_of concat to_bytes
problem-judged =
    renamed-judged
    (then-judged _ (field-judged _ _ _) (λ place b p.
    then-judged _ (field-judged _ _ _) (λ place r p.
    then-judged _ (field-judged _ _ _) (λ place n p.
    then-judged _ (repeat-judged (clause-judged b r) n) (λ place cs p. rest-judged _)))))
    _ _ _
    (λ w p. let n : WrittenProblem = record { booleans = w.0; rationals = w.1.0; clauses = w.1.1.1.0 } in record {
      name = n;
      made = p.1.1.1.0.1;
      fields = rw (p.1.1.1.0.0, append-nil (concat (map (clause_fields w.0) w.1.1.1.0)));
      lasts = λ place. behind-header place n;
    })
    (λ w p. record {
      name = (w.booleans, (w.rationals, (length w.clauses, (w.clauses, tt))));
      made = (tt, (tt, (tt, ((refl, p), tt))));
      fields = rw (append-nil (concat (map (clause_fields w.booleans) w.clauses)));
      lasts = λ place. sym (behind-header place w);
    })
