-- What the whole call comes to, by what reading gave.
use Rattle.std.specs.Prelude.{◌≡◌, true, false, List, ℕ, length}
use Rattle.std.proofs.Math.Path.{sym}
use Rattle.rules_types.specs.declared.answers.Refusal.{Refusal}
use Rattle.rules_types.specs.declared.answers.Refusal.TheVariants as refusal
use Rattle.rules_types.specs.declared.answers.Checked.TheVariants.{Refused}
use Rattle.rules_types.specs.declared.terms.Terms.{Terms}
use Rattle.rules.specs.Problem.{in_edition}
use Rattle.rules.specs.Calls.{read, whole_steps, proof_checked}
use Rattle.rules.specs.Checker.{check_proof}
use Rattle.problem_scan.specs.declared.cursor.Sizes.{Sizes}
use Rattle.problem_scan.specs.declared.cursor.Scan.TheVariants.{Fault}
use Rattle.problem_read.specs.Parsed.{problem_at}
use Rattle.problem_read.specs.ScanOf.{scan_of, scan_of-faulty}
use Rattle.problem_read.specs.Readable.{Readable}

module _ (terms : Terms) (q proof : List ℕ) where
  pub called-faulty : (f : Refusal) (place : ℕ) → scan_of (read q) ≡ Fault f place → Refused f place ≡ proof_checked terms q proof
  unfolding proof_checked
  called-faulty f place e = sym (rw (scan_of-faulty (read q) f place e, proof_checked))

  module _ {sizes : Sizes} (h : Readable q sizes) where
    pub called-length : whole_steps terms.limits (length proof) ≡ false
        → Refused refusal.ProofLength (length proof) ≡ proof_checked terms q proof
    unfolding proof_checked
    called-length e = sym (rw (h.is_read, e, proof_checked))

    pub called-whole : whole_steps terms.limits (length proof) ≡ true
        → check_proof (in_edition terms.edition (problem_at q sizes)) proof ≡ proof_checked terms q proof
    unfolding proof_checked
    called-whole e = sym (rw (h.is_read, e, proof_checked))
