-- What trimming answers: 1, or as the check does, or with the steps that are left; and where nothing is written.
use Rattle.std.specs.Prelude.{◌≡◌, ◌↔◌, Bool, true, false, List, ◌++◌, ℕ, ◌≤◌, ◌<◌, ltb, drop}
use Rattle.std.proofs.Math.Path.{refl, ap}
use Rattle.std.proofs.Common.{◌∙◌, ltb-true, ltb-false}
use Rattle.std.proofs.Math.Logic.{⊎_elim}
use native.Mathlib.Omega.{arith}
use Rattle.std.proofs.Math.ListN.{length}
use Rattle.rules_types.specs.declared.answers.Refusal.{Refusal}
use Rattle.rules_types.specs.declared.answers.Refusal.TheVariants as refusal
use Rattle.rules_types.specs.declared.answers.Checked.{Checked}
use Rattle.rules_types.specs.declared.answers.Checked.TheVariants as checked
use Rattle.rules_types.specs.declared.answers.Trimmed.TheVariants.{Steps, Fails, Refused}
use Rattle.rules_types.specs.declared.terms.Terms.{Terms}
use Rattle.rules_types.specs.Limits as limit
use Rattle.rules_types.specs.Answers.{refusal_number}
use Rattle.rules.specs.Bytes.{padded}
use Rattle.rules.specs.Calls.{proof_checked}
use Rattle.rules.specs.Trim.{step_count, trimmed, Trimming, trim_checked, trim}
use Rattle.theory_bytes.specs.Bytes.{AllBytes}
use Rattle.theory_reading.specs.Numbers.{Named, to-13, is-18}
use Rattle.promises.specs.Editions.{proof-refusal}
use Rattle.promises.specs.Halves.{impossible}

module _ (terms : Terms) (input proof lent : List ℕ) where
  abbrev ours : Trimming
  ours = trim terms input proof lent

  abbrev room : ℕ
  room = limit.proof_bytes terms.limits

  abbrev says : Checked
  says = proof_checked terms input proof

  abbrev left : ℕ
  left = step_count (trimmed proof)

  pub data Answered : Type 0 where
    narrow : length lent < room → ours.trimmed ≡ Refused refusal.ShortProof 0 → ours.target ≡ lent → Answered
    refuses : room ≤ length lent → (f : Refusal) (place : ℕ) → says ≡ checked.Refused f place → ours.trimmed ≡ Refused f place
        → ours.target ≡ lent → Answered
    fails : room ≤ length lent → (n : ℕ) → says ≡ checked.Fails n → ours.trimmed ≡ Fails n → ours.target ≡ lent → Answered
    trims : room ≤ length lent → says ≡ checked.Accepted → ours.trimmed ≡ Steps left
        → ours.target ≡ padded room (trimmed proof) ++ drop room lent → Answered

  pub answered : Answered
  unfolding trim trim_checked
  answered = by (ltb (length lent) room) refl
    where
      said-by : (c : Checked) → says ≡ c → room ≤ length lent → ours ≡ trim_checked terms.limits c proof lent → Answered
      said-by checked.Accepted e h o = trims h e (ap (λ (t : Trimming). t.trimmed) o) (ap (λ (t : Trimming). t.target) o)
      said-by (checked.Fails n) e h o = fails h n e (ap (λ (t : Trimming). t.trimmed) o) (ap (λ (t : Trimming). t.target) o)
      said-by (checked.Refused f place) e h o =
          refuses h f place e (ap (λ (t : Trimming). t.trimmed) o) (ap (λ (t : Trimming). t.target) o)

      by : (t : Bool) → ltb (length lent) room ≡ t → Answered
      by true e =
          let o : ours ≡ record { trimmed = Refused refusal.ShortProof 0; target = lent } = rw (e, trim) in
          narrow (ltb-true (length lent) room e) (ap (λ (t : Trimming). t.trimmed) o) (ap (λ (t : Trimming). t.target) o)
      by false e = said-by says refl (ltb-false (length lent) room e) (rw (e, trim))

  -- the check never says 1
  not_short : AllBytes input → (place : ℕ) → says ≡ checked.Refused refusal.ShortProof place → ⊥
  unfolding refusal_number
  not_short are place e =
      ⊎_elim by (λ h. omega (arith, ap refusal_number h)) (proof-refusal terms input are proof refusal.ShortProof place e)
    where
      by : Named refusal.ShortProof → ⊥
      by (to-13 a b) = omega arith
      by (is-18 h) = omega arith

  pub space : AllBytes input → (ours.trimmed ≡ Refused refusal.ShortProof 0) ↔ (length lent < room)
  space are = by answered
    where
      by : Answered → (ours.trimmed ≡ Refused refusal.ShortProof 0) ↔ (length lent < room)
      by (narrow h t o) = (λ a. h, λ l. t)
      by (refuses h f place e t o) = (
        λ a. let i : f ≡ refusal.ShortProof = cc in absurd (not_short are place (e ∙ ap (λ (g : Refusal). checked.Refused g place) i)),
        λ l. absurd (omega arith),
      )
      by (fails h n e t o) = (λ a. impossible cc, λ l. absurd (omega arith))
      by (trims h e t o) = (λ a. impossible cc, λ l. absurd (omega arith))

  pub refused : room ≤ length lent → (f : Refusal) (place : ℕ) → (ours.trimmed ≡ Refused f place) ↔ (says ≡ checked.Refused f place)
  refused h f place = by answered
    where
      by : Answered → (ours.trimmed ≡ Refused f place) ↔ (says ≡ checked.Refused f place)
      by (narrow l t o) = absurd (omega arith)
      by (refuses l g at e t o) = (
        λ a. let i : g ≡ f = cc in let j : at ≡ place = cc in e ∙ (λ k. checked.Refused (i k) (j k)),
        λ a. let i : g ≡ f = cc in let j : at ≡ place = cc in t ∙ (λ k. Refused (i k) (j k)),
      )
      by (fails l n e t o) = (λ a. impossible cc, λ a. impossible cc)
      by (trims l e t o) = (λ a. impossible cc, λ a. impossible cc)

  pub failing : room ≤ length lent → (n : ℕ) → (ours.trimmed ≡ Fails n) ↔ (says ≡ checked.Fails n)
  failing h n = by answered
    where
      by : Answered → (ours.trimmed ≡ Fails n) ↔ (says ≡ checked.Fails n)
      by (narrow l t o) = absurd (omega arith)
      by (refuses l g at e t o) = (λ a. impossible cc, λ a. impossible cc)
      by (fails l m e t o) = (
        λ a. let i : m ≡ n = cc in e ∙ ap checked.Fails i,
        λ a. let i : m ≡ n = cc in t ∙ ap Fails i,
      )
      by (trims l e t o) = (λ a. impossible cc, λ a. impossible cc)

  pub accepted : room ≤ length lent → ((n : ℕ) × (ours.trimmed ≡ Steps n)) ↔ (says ≡ checked.Accepted)
  accepted h = by answered
    where
      by : Answered → ((n : ℕ) × (ours.trimmed ≡ Steps n)) ↔ (says ≡ checked.Accepted)
      by (narrow l t o) = absurd (omega arith)
      by (refuses l g at e t o) = (λ a. let b = a.1 in impossible cc, λ a. impossible cc)
      by (fails l m e t o) = (λ a. let b = a.1 in impossible cc, λ a. impossible cc)
      by (trims l e t o) = (λ a. e, λ a. (left, t))

  -- what is not shortened is not written
  unwritten : ((n : ℕ) → ours.trimmed ≡ Steps n → ⊥) → ours.target ≡ lent
  unwritten never = by answered
    where
      by : Answered → ours.target ≡ lent
      by (narrow l t o) = o
      by (refuses l g at e t o) = o
      by (fails l m e t o) = o
      by (trims l e t o) = absurd (never left t)

  pub untouched : (f : Refusal) (place : ℕ) → ours.trimmed ≡ Refused f place → ours.target ≡ lent
  untouched f place a = unwritten (λ n b. impossible cc)

  pub fails_untouched : (n : ℕ) → ours.trimmed ≡ Fails n → ours.target ≡ lent
  fails_untouched n a = unwritten (λ m b. impossible cc)
