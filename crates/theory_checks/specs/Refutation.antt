-- A proof that the check accepts is a refutation, whoever wrote it: an assignment that satisfies the problem satisfies the clauses that
-- the proof loads.
use Rattle.std.specs.Prelude.{◌≡◌, List, ℕ, T}
use Rattle.rules_types.specs.declared.answers.Checked.TheVariants.{Accepted}
use Rattle.theory_lists.specs.All.{all_yes}
use Rattle.theory_lists.specs.Places.{element-all}
use Rattle.rules.specs.Problem.{Problem}
use Rattle.rules.specs.Meaning.{Assignment, clause_holds, Satisfies}
use Rattle.rules.specs.Checker.{check_proof}
use Rattle.theory_splitting.specs.WellFormed.{WellFormed}
use Rattle.theory_checks.specs.Core.{accepted-core}

pub accepted-proof-refutes : (p : Problem) → WellFormed p → (bytes : List ℕ) → check_proof p bytes ≡ Accepted
    → (χ : Assignment) → Satisfies χ p → ⊥
accepted-proof-refutes p w bytes a χ s =
    accepted-core p w bytes a χ s.denominator
    (λ c x l e. element-all (λ y. T (clause_holds χ y)) p.clauses c x e (all_yes (clause_holds χ) p.clauses s.clauses))
