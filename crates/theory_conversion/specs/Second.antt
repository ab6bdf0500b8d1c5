-- What the second edition asks of an assignment besides: no rational variable is below 0.
use Rattle.std.proofs.Common.{sym, subst, arith}
use Rattle.std.specs.Prelude.{◌↔◌, List, ◌++◌, ℕ, ◌≤◌, ◌<◌, pos, T}
use Rattle.std.specs.Int.Signed.{le_z}
use Rattle.rules_types.specs.declared.terms.Edition.TheVariants.{Second}
use Rattle.rules_types.specs.Limits as limit
use Rattle.rules.specs.Lists.{tabulate}
use Rattle.rules.specs.Problem.{Clause, Problem, non_negative, added, in_edition}
use Rattle.rules.specs.Meaning.{Assignment, clause_holds, Satisfies}
use Rattle.theory_lists.specs.All.{all_append, append-all, all_yes, yes-all}
use Rattle.theory_lists.specs.Places.{element-all}
use Rattle.theory_lists.specs.Tabulated.{element-tabulate, all-tabulate}
use Rattle.theory_splitting.specs.Editions.{holds-added}

abbrev pub NotBelowZero : ℕ → Assignment → Type 0
NotBelowZero r χ = (f : ℕ) → f < r → T (le_z (pos 0) (χ.numerators f))

pub satisfies-second : (p : Problem) → p.rationals ≤ limit.rationals → (χ : Assignment)
    → Satisfies χ (in_edition Second p) ↔ (Satisfies χ p × NotBelowZero p.rationals χ)
unfolding added
satisfies-second p few χ = (
  λ s. let a = append-all Holds p.clauses more (all_yes (clause_holds χ) (p.clauses ++ more) s.clauses) in (
    record { denominator = s.denominator; clauses = yes-all (clause_holds χ) p.clauses a.0 },
    λ f h. subst T (holds-added χ f (omega arith))
        (element-all Holds more f (non_negative f) (element-tabulate p.rationals non_negative f h) a.1),
  ),
  λ h. record {
    denominator = h.0.denominator;
    clauses = yes-all (clause_holds χ) (p.clauses ++ more)
        (all_append Holds p.clauses more (all_yes (clause_holds χ) p.clauses h.0.clauses)
        (all-tabulate Holds p.rationals non_negative (λ f l. subst T (sym (holds-added χ f (omega arith))) (h.1 f l))));
  },
)
  where
    more : List Clause
    more = tabulate p.rationals non_negative

    Holds : Clause → Type 0
    Holds c = T (clause_holds χ c)
