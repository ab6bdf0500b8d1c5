-- The call that checks a proof: where it says accepted, the problem that was read has no satisfying assignment, whatever the terms; nor
-- do the clauses alone that the proof loads.
use Rattle.std.specs.Prelude.{◌≡◌, refl, Bool, List, ℕ, ◌≤◌, length}
use Rattle.std.proofs.Common.{⊎_elim, arith}
use Rattle.rules_types.specs.declared.answers.Refusal.{Refusal}
use Rattle.rules_types.specs.declared.answers.Refusal.TheVariants as refusal
use Rattle.rules_types.specs.declared.answers.Checked.TheVariants as checked
use Rattle.rules_types.specs.declared.terms.Terms.{Terms}
use Rattle.theory_lists.specs.Tests.{split, is_true, is_false}
use Rattle.rules.specs.Problem.{Problem, in_edition}
use Rattle.rules.specs.Meaning.{Assignment, Satisfies}
use Rattle.rules.specs.Checker.{check_proof}
use Rattle.rules.specs.Calls.{Reading, faulty, sound, read, whole_steps, proof_checked}
use Rattle.theory_splitting.specs.WellRead.{posed-well-formed}
use Rattle.theory_checks.specs.Core.{LoadedHold, accepted-core}
use Rattle.theory_checks.specs.Refutation.{accepted-proof-refutes}

-- the problem that was read, and that its check accepts the proof
pub record CheckedProof (terms : Terms) (input proof : List ℕ) : Type 0 where
  pub problem : Problem
  pub reads : read input ≡ sound problem
  pub accepted : check_proof (in_edition terms.edition problem) proof ≡ checked.Accepted

pub refused-not : (f : Refusal) (n : ℕ) → checked.Refused f n ≡ checked.Accepted → ⊥
refused-not f n e = let z : ◌≡◌ {A = ℕ} 0 1 = cc in omega arith

pub checked-proof : (terms : Terms) (input proof : List ℕ) → proof_checked terms input proof ≡ checked.Accepted
    → CheckedProof terms input proof
unfolding proof_checked
checked-proof terms input proof a = by (read input) refl
  where
    whole : Bool
    whole = whole_steps terms.limits (length proof)

    by : (r : Reading) → read input ≡ r → CheckedProof terms input proof
    by (faulty f place) e = absurd (refused-not f place (rw (e, proof_checked) at a))
    by (sound p) e =
        ⊎_elim (λ t. record { problem = p; reads = e; accepted = rw (e, proof_checked, is_true whole t) at a })
        (λ t. absurd (refused-not refusal.ProofLength (length proof) (rw (e, proof_checked, is_false whole t) at a))) (split whole)

pub same-problem : (r : Reading) (p q : Problem) → r ≡ sound p → r ≡ sound q → p ≡ q
same-problem r p q e f = cc

module _ (terms : Terms) (input proof : List ℕ) (a : proof_checked terms input proof ≡ checked.Accepted) (p : Problem)
    (e : read input ≡ sound p) where
  posed-accepted : check_proof (in_edition terms.edition p) proof ≡ checked.Accepted
  posed-accepted =
      let c = checked-proof terms input proof a in
      rw (same-problem (read input) p c.problem e c.reads) c.accepted

  pub proof-checked-refutes : (χ : Assignment) → Satisfies χ (in_edition terms.edition p) → ⊥
  proof-checked-refutes =
      accepted-proof-refutes (in_edition terms.edition p) (posed-well-formed terms.edition input p e) proof posed-accepted

  -- nor is there an assignment under which the clauses hold that the proof loads
  pub proof-checked-core : (χ : Assignment) → 1 ≤ χ.denominator → LoadedHold proof (in_edition terms.edition p) χ → ⊥
  proof-checked-core =
      accepted-core (in_edition terms.edition p) (posed-well-formed terms.edition input p e) proof posed-accepted
