-- The new problem's variables: the same Boolean ones, open where they were; and as many rational ones as there are halves.
use Rattle.std.specs.Prelude.{◌≡◌, refl, Bool, ◌||◌, List, [], ◌∷◌, map, ℕ, ◌+◌, eqb, length}
use Rattle.std.proofs.Math.Path.{ap}
use Rattle.std.proofs.Common.{◌∙◌}
use Rattle.std.proofs.Math.Bool.{not}
use Rattle.rules_types.specs.declared.terms.Edition.{Edition}
use Rattle.rules_types.specs.Layout as layout
use Rattle.rules.specs.Lists.{any}
use Rattle.rules.specs.Problem.{Problem, in_edition}
use Rattle.rules.specs.Written.{WrittenClause, bytes_of, clause_fields, clause_meant, clauses_meant, meaning}
use Rattle.rules.specs.Model.{occurs, is_open}
use Rattle.rules.specs.Convert.{kept, place_of, split_clause, split_problem, written_as, carried_over}
use Rattle.rules.specs.Calls.{sound, read}
use Rattle.theory_bytes.specs.Bytes.{AllBytes}
use Rattle.theory_splitting.specs.Editions.{open-posed}
use Rattle.theory_conversion.specs.WrittenBack.{read-as-written}

pub carried-booleans : (p : Problem) → (meaning (carried_over p)).booleans ≡ p.booleans
unfolding carried_over split_problem written_as meaning
carried-booleans p = refl

pub carried-rationals : (p : Problem) → (meaning (carried_over p)).rationals ≡ place_of (kept p) p.rationals
unfolding carried_over split_problem written_as meaning
carried-rationals p = refl

same-occurs : (keeps : ℕ → Bool) (i b start start' : ℕ) (cs : List WrittenClause)
    → occurs i (clauses_meant b start (map (split_clause keeps) cs)) ≡ occurs i (clauses_meant b start' cs)
unfolding occurs any clauses_meant clause_meant split_clause
same-occurs keeps i b start start' [] = refl
same-occurs keeps i b start start' (c ∷ cs) =
    ap (λ (t : Bool). any (λ l. eqb l.boolean i) (clause_meant start' c).literals || t)
    (same-occurs keeps i b (start + length (bytes_of (clause_fields b (split_clause keeps c))))
    (start' + length (bytes_of (clause_fields b c))) cs)

module _ (input : List ℕ) (h : AllBytes input) (p : Problem) (e : read input ≡ sound p) where
  pub carried-open : is_open (meaning (carried_over p)) ≡ is_open p
  unfolding carried_over split_problem written_as meaning is_open
  carried-open =
      (λ k i. not (same-occurs (kept p) i p.booleans layout.first_clause layout.first_clause (written_as p).clauses k))
      ∙ ap is_open (read-as-written input h p e).means

  pub carried-open-posed : (edition : Edition) → is_open (in_edition edition (meaning (carried_over p))) ≡ is_open p
  carried-open-posed edition = open-posed edition (meaning (carried_over p)) ∙ carried-open
