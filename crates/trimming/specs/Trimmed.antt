-- What the call answers, and what it leaves in the target.
use Rattle.std.specs.Prelude.{◌≡◌, Bool, ℕ, ◌+◌, ◌*◌, ◌-◌, ◌≤◌, ◌<◌}
use Rattle.std.proofs.Common.{sym, subst, ◌∙◌, arith, lt-ltb, le-ltb, drop-drop}
use Rattle.std.proofs.Math.Path.{ap}
use mathlib.Core.List.{List, ◌++◌}
use Rattle.std.proofs.Math.ListN.{length, drop, replicate}
use Rattle.rules_types.specs.declared.answers.Refusal.{Refusal}
use Rattle.rules_types.specs.declared.answers.Refusal.TheVariants as refusal
use Rattle.rules_types.specs.declared.answers.Checked.TheVariants as checked
use Rattle.rules_types.specs.declared.answers.Trimmed.{Trimmed}
use Rattle.rules_types.specs.declared.answers.Trimmed.TheVariants.{Steps, Fails, Refused}
use Rattle.rules_types.specs.declared.terms.Edition.{Edition}
use Rattle.rules_types.specs.declared.terms.Terms.{Terms}
use Rattle.rules_types.specs.Limits as limit
use Rattle.rules_types.specs.Terms.{on}
use Rattle.rules.specs.Bytes.{padded}
use Rattle.rules.specs.Calls.{proof_checked}
use Rattle.rules.specs.Trim.{step_count, needed, kept_steps, trimmed, Trimming, trim_checked, trim}
use Rattle.theory_trimming.specs.Kept.{length-kept}
use Rattle.theory_trimming.specs.Ordered.{Trimmable}
use Rattle.steps.specs.Places.{zeroed, zeroed-behind}
use Rattle.trimming.specs.Marks.{is_marked}
use Rattle.trimming.specs.Needed.{NeededMarks}
use Rattle.trimming.specs.Kept.{Putting}

-- ---- the short proof, zeros, and the bytes beyond
unfoldable pub trimmed_into : List ℕ → List ℕ → List ℕ
trimmed_into proof old = padded (limit.proof_bytes limit.standard) (trimmed proof) ++ drop (limit.proof_bytes limit.standard) old

module _ {proof : List ℕ} (given : Trimmable limit.standard proof) {marks : List ℕ} (marked : NeededMarks proof marks) {old new : List ℕ}
    {n : ℕ} (put : Putting proof (is_marked marks) old (step_count proof) n new) where
  abbrev kept : List ℕ
  kept = kept_steps proof (needed proof) (step_count proof)

  written : Putting proof (needed proof) old (step_count proof) n new
  written = subst (λ (keeps : ℕ → Bool). Putting proof keeps old (step_count proof) n new) marked.same put

  kept-length : length kept ≡ limit.step_bytes * n
  kept-length = length-kept proof (needed proof) (step_count proof) (omega (arith, given.whole))
      ∙ ap (λ (m : ℕ). limit.step_bytes * m) (sym written.count)

  pub trimmed-count : n ≡ step_count (trimmed proof)
  unfolding step_count trimmed
  trimmed-count = omega (arith, kept-length)

  pub trimmed-left : {last : List ℕ} → n ≤ limit.steps → last ≡ zeroed n limit.steps new → last ≡ trimmed_into proof old
  unfolding trimmed_into trimmed padded
  trimmed-left few z =
      let rest = drop (0 + length kept) old in
      let most = limit.proof_bytes limit.standard in
      let more : limit.step_bytes * limit.steps - limit.step_bytes * n ≡ most - length kept = omega (arith, kept-length) in
      let far : 0 + length kept + (most - length kept) ≡ most = omega (arith, kept-length) in
      z ∙ ap (zeroed n limit.steps) written.same ∙ zeroed-behind n kept kept-length limit.steps rest
      ∙ ap (λ (m : ℕ). kept ++ replicate m 0 ++ drop m rest) more
      ∙ ap (λ (l : List ℕ). kept ++ replicate (most - length kept) 0 ++ l)
      (drop-drop (most - length kept) (0 + length kept) old ∙ ap (λ (m : ℕ). drop m old) far)

-- ---- the answers
module _ (edition : Edition) (input proof target : List ℕ) where
  abbrev terms : Terms
  terms = on limit.standard edition

  -- an answer, and the target after it
  abbrev pub Gives : Trimmed → List ℕ → Type 0
  Gives t after = (t ≡ (trim terms input proof target).trimmed) × (after ≡ (trim terms input proof target).target)

  gives : {t : Trimmed} {after : List ℕ} → trim terms input proof target ≡ record { trimmed = t; target = after } → Gives t after
  gives e = (ap (λ (x : Trimming). x.trimmed) (sym e), ap (λ (x : Trimming). x.target) (sym e))

  pub gives-short : length target < limit.proof_bytes limit.standard → Gives (Refused refusal.ShortProof 0) target
  unfolding trim
  gives-short h = gives (rw (lt-ltb (length target) (limit.proof_bytes limit.standard) h, trim))

  module _ (room : limit.proof_bytes limit.standard ≤ length target) where
    pub gives-fails : (n : ℕ) → proof_checked terms input proof ≡ checked.Fails n → Gives (Fails n) target
    unfolding trim trim_checked
    gives-fails n e = gives (rw (le-ltb (length target) (limit.proof_bytes limit.standard) room, trim, e, trim_checked))

    pub gives-refused : (f : Refusal) (place : ℕ) → proof_checked terms input proof ≡ checked.Refused f place
        → Gives (Refused f place) target
    unfolding trim trim_checked
    gives-refused f place e = gives (rw (le-ltb (length target) (limit.proof_bytes limit.standard) room, trim, e, trim_checked))

    pub gives-steps : proof_checked terms input proof ≡ checked.Accepted → {n : ℕ} {after : List ℕ} → n ≡ step_count (trimmed proof)
        → after ≡ trimmed_into proof target → Gives (Steps n) after
    unfolding trim trim_checked trimmed_into
    gives-steps e c a = gives (rw (le-ltb (length target) (limit.proof_bytes limit.standard) room, trim, e, trim_checked, c, a))
