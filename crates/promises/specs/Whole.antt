-- The check of a proof, by how many lines its bytes are: accepted, the first line that fails, or 16.
use Rattle.std.specs.Prelude.{◌≡◌, Bool, ◌&&◌, ◌↔◌, List, ℕ, ◌*◌, ◌/◌, ◌%◌, ◌≤◌, T, eqb, length}
use Rattle.std.proofs.Common.{sym, ◌∙◌}
use Rattle.std.proofs.Math.Path.{ap}
use Rattle.std.proofs.Math.Logic.{⊎_elim}
use native.Mathlib.Omega.{arith}
use Rattle.std.proofs.Math.Dec.{leb, leb→le, eqb→eq}
use Rattle.std.proofs.Math.Facts.{and_yes, yes_and, yes_leb, yes_eqb}
use Rattle.rules_types.specs.declared.answers.Refusal.{Refusal}
use Rattle.rules_types.specs.declared.answers.Refusal.TheVariants.{ProofLength}
use Rattle.rules_types.specs.declared.answers.Checked.TheVariants.{Accepted, Fails, Refused}
use Rattle.rules_types.specs.declared.limits.Limits.{Limits}
use Rattle.rules_types.specs.declared.terms.Terms.{Terms}
use Rattle.rules_types.specs.Limits as limit
use Rattle.rules.specs.Problem.{Problem, in_edition}
use Rattle.rules.specs.Elimination.{loadable_of}
use Rattle.rules.specs.Checker.{followed_lines, check_proof}
use Rattle.rules.specs.Calls.{sound, read, whole_steps, proof_checked}
use Rattle.theory_lists.specs.Tests.{split, is_true, is_false, clash}
use Rattle.theory_bytes.specs.Bytes.{AllBytes}
use Rattle.theory_checks.specs.EndsEmpty.{end-unrefused}
use Rattle.promises.specs.Words.{Refutes, WholeLines}
use Rattle.promises.specs.Checked.{proof-exactly, proof-length-refused}
use Rattle.promises.specs.Failing.{LineFails, proof-fails}

module _ (limits : Limits) (n : ℕ) where
  pub whole-lines : T (whole_steps limits n) → WholeLines limits n (n / limit.step_bytes)
  unfolding whole_steps
  whole-lines t =
      let a = and_yes (leb limit.step_bytes n && leb n (limit.proof_bytes limits)) (eqb (n % limit.step_bytes) 0) t in
      let b = and_yes (leb limit.step_bytes n) (leb n (limit.proof_bytes limits)) a.0 in
      let some : limit.step_bytes ≤ n = leb→le limit.step_bytes n b.0 in
      let few : n ≤ limits.steps * limit.step_bytes = leb→le n (limit.proof_bytes limits) b.1 in
      let even : n % limit.step_bytes ≡ 0 = eqb→eq (n % limit.step_bytes) 0 a.1 in
      record { count = omega arith; some = omega arith; few = omega arith }

  pub lines-whole : (k : ℕ) → WholeLines limits n k → T (whole_steps limits n)
  unfolding whole_steps
  lines-whole k h =
      let c = h.count in
      let s = h.some in
      let f = h.few in
      let least : limit.step_bytes ≤ n = omega arith in
      let most : n ≤ limit.proof_bytes limits = omega arith in
      let even : n % limit.step_bytes ≡ 0 = omega arith in
      yes_and (leb limit.step_bytes n && leb n (limit.proof_bytes limits)) (eqb (n % limit.step_bytes) 0)
      (yes_and (leb limit.step_bytes n) (leb n (limit.proof_bytes limits)) (yes_leb least) (yes_leb most)) (yes_eqb even)

  pub lines_are : (k : ℕ) → WholeLines limits n k → n / limit.step_bytes ≡ k
  lines_are k h = let c = h.count in omega arith

-- ---- the call, for a problem read without fault, in its edition
module _ (terms : Terms) (input : List ℕ) (q : Problem) (e : read input ≡ sound q) (bytes : List ℕ) where
  abbrev limits : Limits
  limits = terms.limits

  abbrev p : Problem
  p = in_edition terms.edition q

  abbrev whole : Bool
  whole = whole_steps limits (length bytes)

  module _ (are : AllBytes bytes) (few : limits.steps ≤ limit.most_steps) where
    pub accepted-lines : proof_checked terms input bytes ≡ Accepted
        ↔ ((k : ℕ) × WholeLines limits (length bytes) k × Refutes (loadable_of p) k bytes)
    accepted-lines =
        let x = proof-exactly terms input q e few bytes are in (
          λ a. let h = x.0 a in (length bytes / limit.step_bytes, whole-lines limits (length bytes) h.0, h.1),
          λ h. x.1 (lines-whole limits (length bytes) h.0 h.1, rw (lines_are limits (length bytes) h.0 h.1) h.2),
        )

    pub failing-line : (k : ℕ) → WholeLines limits (length bytes) k → (m : ℕ) → proof_checked terms input bytes ≡ Fails m
        ↔ LineFails (loadable_of p) k bytes m
    failing-line k h m =
        rw (lines_are limits (length bytes) k h)
        at (proof-fails terms input q e few bytes are (is_true whole (lines-whole limits (length bytes) k h)) m)

  -- bytes of whole lines are not refused
  pub whole-unrefused : T whole → (f : Refusal) (place : ℕ) → proof_checked terms input bytes ≡ Refused f place → ⊥
  unfolding proof_checked check_proof
  whole-unrefused t f place a = end-unrefused (followed_lines p bytes) f place (rw (e, proof_checked, is_true whole t) at a)

  pub refused-length : (place : ℕ) → proof_checked terms input bytes ≡ Refused ProofLength place
      ↔ ((place ≡ length bytes) × ((k : ℕ) → WholeLines limits (length bytes) k → ⊥))
  unfolding proof_checked
  refused-length place =
      ⊎_elim
      (λ t. (
        λ a. absurd (whole-unrefused t ProofLength place a),
        λ h. absurd (h.1 (length bytes / limit.step_bytes) (whole-lines limits (length bytes) t)),
      ))
      (λ t. (
        λ a. (
          (let b : Refused ProofLength (length bytes) ≡ Refused ProofLength place = rw (e, proof_checked, is_false whole t) at a in cc),
          λ k h. clash whole (lines-whole limits (length bytes) k h) t,
        ),
        λ h. proof-length-refused terms input q e bytes (is_false whole t) ∙ ap (Refused ProofLength) (sym h.0),
      ))
      (split whole)
