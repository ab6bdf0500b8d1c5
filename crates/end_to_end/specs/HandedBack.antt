-- What joins several calls: handing back with the number, the value and the buffers that solving returned and left, and the check of what
-- it hands back; on any terms, so with either limit of lines. The premises are the records of the calls' own `ensures`
-- (jemuling/specs/Promised.antt).
use Rattle.std.specs.Prelude.{◌≡◌, refl, ◌⊎◌, List, ℕ, ◌*◌, ◌≤◌, take}
use Rattle.std.proofs.Common.{sym, ap, ◌∙◌, subst, ⊎_elim, inl, inr}
use Rattle.rules_types.specs.declared.answers.Verdict.TheVariants.{Satisfiable, Unsatisfiable}
use Rattle.rules_types.specs.declared.answers.Answer.{Answer}
use Rattle.rules_types.specs.declared.answers.Answer.TheVariants.{Decided, Refused}
use Rattle.rules_types.specs.declared.answers.Checked.TheVariants.{Accepted}
use Rattle.rules_types.specs.declared.answers.Evidence.{Evidence}
use Rattle.rules_types.specs.declared.answers.Evidence.TheVariants.{OfProof, OfModel}
use Rattle.rules_types.specs.declared.terms.Terms.{Terms}
use Rattle.rules_types.specs.Limits as limit
use Rattle.rules_types.specs.Answers.{verdict_number, answer_number, answer_value}
use Rattle.rules.specs.Calls.{Solving, proof_checked, model_checked}
use Rattle.theory_layout.specs.Fields.{take-bytes}
use Rattle.theory_checks.specs.ProofChecked.{CheckedProof, checked-proof}
use Rattle.theory_checks.specs.ModelChecked.{CheckedModel, model-checked-satisfies}
use Rattle.promises.specs.Words.{Comes, IsRefused}
use Rattle.promises.specs.Handing.{Hands}
use Rattle.promises.specs.HandedBack.{HandedBack, handed-after}
use Rattle.jemuling.specs.declared.told.Told.{Told}
use Rattle.jemuling.specs.declared.told.SolvedTold.{SolvedTold}
use Rattle.jemuling.specs.Promised.{Delivered, BookChecked, SheetChecked, PartHanded}

-- "Handing back gives the caller the sheet's 64 bytes after "agrees" and the used lines of the book after "cannot agree"", and demand 2:
-- the check accepts "every non-empty part our solver hands back"
pub record Handed (terms : Terms) (input : List ℕ) (told : SolvedTold) (proof model : List ℕ) (t : Told) : Type 0 where
  pub after_satisfiable : told.number ≡ verdict_number Satisfiable → (t.number ≡ 70) × (t.value ≡ limit.model_bytes)
  pub after_unsatisfiable : told.number ≡ verdict_number Unsatisfiable → (t.number ≡ 69) × (t.value ≡ limit.step_bytes * told.value)
  pub of_model : t.number ≡ 70 → (check : Told) → SheetChecked terms input (take t.value model) check → check.number ≡ 67
  pub of_proof : t.number ≡ 69
      → (t.value ≡ 0) ⊎ ((check : Told) → BookChecked terms input (take t.value proof) check → check.number ≡ 67)

module _ {terms : Terms} (few : terms.limits.steps ≤ limit.most_steps) {input lent_proof lent_model : List ℕ} {told : SolvedTold}
    {proof model : List ℕ} (d : Delivered terms input lent_proof lent_model told proof model) where
  abbrev ours : Solving
  ours = d.ours

  number_is : (a : Answer) → a ≡ ours.solved.answer → told.number ≡ answer_number a
  unfolding answer_number
  number_is (Decided v n) e = (d.tells.verdict v).1 (subst (Comes v) e refl)
  number_is (Refused f n) e = (d.tells.refusal f).1 (subst (IsRefused f) e refl)

  module _ {t : Told} (h : PartHanded terms.limits told.number told.value proof model t) where
    back : HandedBack terms input ours h.part
    back =
        handed-after terms input lent_proof lent_model ours d.first d.third h.part
        (subst (λ (n : ℕ). Hands terms.limits n (answer_value ours.solved.answer) ours.proof ours.model h.part)
        (number_is ours.solved.answer refl)
        (subst (λ (n : ℕ). Hands terms.limits told.number n ours.proof ours.model h.part) d.tells.value
        (subst (λ (s : List ℕ). Hands terms.limits told.number told.value s ours.model h.part) d.leaves_proof
        (subst (λ (s : List ℕ). Hands terms.limits told.number told.value proof s h.part) d.leaves_model h.hands))))

    model-checked : (n : ℕ) → h.part ≡ OfModel n → (check : Told) → SheetChecked terms input (take n model) check → check.number ≡ 67
    model-checked n e check k =
        let a = subst (λ (s : List ℕ). model_checked terms input (take n s) ≡ Accepted) (sym d.leaves_model) (back.of_model n e) in
        let c : CheckedModel terms input (take n model) = model-checked-satisfies terms input (take n model) a in
        k.tells.accepted.1 ((k.checks.accepted c.problem c.reads).1
        (((d.second c.problem c.reads).model terms.limits (take n model)).0 a))

    proof-checked : (n : ℕ) → h.part ≡ OfProof n
        → (n ≡ 0) ⊎ ((check : Told) → BookChecked terms input (take n proof) check → check.number ≡ 67)
    proof-checked n e = ⊎_elim (λ z. inl z) (λ b. inr (accepted b)) (back.of_proof n e)
      where
        accepted : proof_checked terms input (take n ours.proof) ≡ Accepted → (check : Told)
            → BookChecked terms input (take n proof) check → check.number ≡ 67
        accepted b check k =
            let a = subst (λ (s : List ℕ). proof_checked terms input (take n s) ≡ Accepted) (sym d.leaves_proof) b in
            let c : CheckedProof terms input (take n proof) = checked-proof terms input (take n proof) a in
            k.tells.accepted.1 ((k.checks.accepted c.problem c.reads).1
            (((d.second c.problem c.reads).proof terms.limits few (take n proof) (take-bytes n proof d.bytes_left.0)).0 a))

    pub handed : Handed terms input told proof model t
    handed =
        record {
          after_satisfiable = λ e. (h.tells.of_model limit.model_bytes).1 (back.after_satisfiable ((d.tells.verdict Satisfiable).0 e));
          after_unsatisfiable = λ e.
              let i = (h.tells.of_proof (limit.step_bytes * answer_value ours.solved.answer)).1
              (back.after_unsatisfiable ((d.tells.verdict Unsatisfiable).0 e)) in
              (i.0, i.1 ∙ ap (λ (k : ℕ). limit.step_bytes * k) (sym d.tells.value));
          of_model = λ e. model-checked t.value ((h.tells.of_model t.value).0 (e, refl));
          of_proof = λ e. proof-checked t.value ((h.tells.of_proof t.value).0 (e, refl));
        }
