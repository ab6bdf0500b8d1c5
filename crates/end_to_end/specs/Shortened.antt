-- What joins shortening with the checks, with itself and with solving: on any terms, so in either edition. The premises are the records of
-- the calls' own `ensures` (jemuling/specs/Promised.antt).
use Rattle.std.specs.Prelude.{◌≡◌, refl, List, ℕ, ◌*◌, ◌≤◌, length, take, drop}
use Rattle.std.proofs.Common.{sym, ap, subst, ◌∙◌, ⊎_elim, arith, take_at, length-take-le}
use Rattle.rules_types.specs.declared.answers.Verdict.TheVariants.{Unsatisfiable}
use Rattle.rules_types.specs.declared.answers.Checked.{Checked}
use Rattle.rules_types.specs.declared.answers.Checked.TheVariants.{Accepted}
use Rattle.rules_types.specs.declared.limits.Limits.{Limits}
use Rattle.rules_types.specs.declared.terms.Edition.{Edition}
use Rattle.rules_types.specs.declared.terms.Edition.TheVariants.{First, Second}
use Rattle.rules_types.specs.declared.terms.Terms.{Terms}
use Rattle.rules_types.specs.Limits as limit
use Rattle.rules_types.specs.Answers.{verdict_number}
use Rattle.rules_types.specs.Terms.{on}
use Rattle.rules.specs.Calls.{Reading, faulty, sound, read, proof_checked}
use Rattle.rules.specs.Trim.{Trimming}
use Rattle.theory_bytes.specs.Bytes.{AllBytes}
use Rattle.theory_layout.specs.Fields.{take-bytes}
use Rattle.theory_checks.specs.ProofChecked.{refused-not}
use Rattle.promises.specs.HandedBack.{verdict-read}
use Rattle.promises.specs.Checks.{ChecksProof, checks-proof}
use Rattle.promises.specs.Editions.{Other, either-edition}
use Rattle.promises.specs.Trimming.{Trims}
use Rattle.promises.specs.OneShort.{same-shortening}
use Rattle.jemuling.specs.declared.told.Told.{Told}
use Rattle.jemuling.specs.declared.told.SolvedTold.{SolvedTold}
use Rattle.jemuling.specs.Promised.{Delivered, BookChecked, PartHanded, BookShortened, DeliveredIn, BookCheckedIn, BookShortenedIn}
use Rattle.end_to_end.specs.HandedBack.{handed}

-- two records of one proof accept it both
accepted-both : {terms : Terms} {input proof : List ℕ} {a b : Checked} → ChecksProof terms input proof a → ChecksProof terms input proof b
    → a ≡ Accepted → b ≡ Accepted
accepted-both {input = input} {a = a} {b = b} x y h = by (read input) refl
  where
    by : (r : Reading) → read input ≡ r → b ≡ Accepted
    by (faulty f place) e = absurd (refused-not f place (sym (x.faulty_input f place e) ∙ h))
    by (sound p) e = (y.accepted p e).1 ((x.accepted p e).0 h)

-- ---- a book that a check accepts, shortened: `lent` is the target before it, `target` what it left there
module _ {terms : Terms} {input proof lent target : List ℕ} {told : Told} (s : BookShortened terms input proof lent told target)
    (ok : s.shortens.says ≡ Accepted) (room : limit.proof_bytes terms.limits ≤ length lent) where
  pub is-shortened : told.number ≡ 73
  is-shortened = let n = (s.shortens.accepted room).1 ok in ((s.tells.steps n.0).1 n.1).0

  trims : Trims terms input proof told.value target
  trims =
      subst (Trims terms input proof told.value) (sym s.leaves)
      (s.shortens.trims told.value ((s.tells.steps told.value).0 (is-shortened, refl)))

-- its used lines
abbrev pub short_book : Told → List ℕ → List ℕ
short_book told target = take (limit.step_bytes * told.value) target

-- shortened again: the same number, the same value, the same first bytes
pub record SameAgain (limits : Limits) (told : Told) (target : List ℕ) (again : Told) (left : List ℕ) : Type 0 where
  pub number : again.number ≡ 73
  pub value : again.value ≡ told.value
  pub bytes : take (limit.proof_bytes limits) left ≡ take (limit.proof_bytes limits) target

module _ {terms : Terms} (few : terms.limits.steps ≤ limit.most_steps) {input proof lent target : List ℕ} {told : Told}
    (s : BookShortened terms input proof lent told target) (ok : s.shortens.says ≡ Accepted)
    (room : limit.proof_bytes terms.limits ≤ length lent) where
  short-bytes : AllBytes (short_book told target)
  short-bytes = take-bytes (limit.step_bytes * told.value) target s.bytes_left

  short-accepted : {says : Checked} → ChecksProof terms input (short_book told target) says → says ≡ Accepted
  short-accepted x = accepted-both (checks-proof terms few input (short_book told target) short-bytes) x (trims s ok room).accepted

  pub short-checked : {check : Told} → BookChecked terms input (short_book told target) check → check.number ≡ 67
  short-checked k = k.tells.accepted.1 (short-accepted k.checks)

  pub short-again : {other left : List ℕ} {again : Told} → BookShortened terms input (short_book told target) other again left
      → limit.proof_bytes terms.limits ≤ length other → SameAgain terms.limits told target again left
  short-again {other} {left} {again} r space =
      let most = limit.proof_bytes terms.limits in
      let bytes : AllBytes r.ours.target = subst AllBytes r.leaves r.bytes_left in
      let is = same-shortening terms few input (short_book told target) other r.bytes short-bytes r.ours bytes r.shortens
      ∙ (trims s ok room).again other space in
      let tells = (r.tells.steps told.value).1 (ap (λ (t : Trimming). t.trimmed) is) in
      let long : length target ≡ length lent = ap length s.leaves ∙ s.shortens.size in
      record {
        number = tells.0;
        value = tells.1;
        bytes = ap (take most) (r.leaves ∙ ap (λ (t : Trimming). t.target) is)
            ∙ take_at (take most target) (drop most other) most (length-take-le most target (omega arith));
      }

-- ---- by the numbers that the calls returned
says-accepted : {terms : Terms} {input proof lent target : List ℕ} {check told : Told} → BookChecked terms input proof check
    → check.number ≡ 67 → (s : BookShortened terms input proof lent told target) → s.shortens.says ≡ Accepted
says-accepted k accepted s = accepted-both k.checks s.shortens.checks (k.tells.accepted.0 accepted)

-- the used lines of the book after "cannot agree"
module _ {terms : Terms} (few : terms.limits.steps ≤ limit.most_steps) {input lent_proof lent_model : List ℕ} {told : SolvedTold}
    {proof model : List ℕ} (d : Delivered terms input lent_proof lent_model told proof model)
    (number : told.number ≡ verdict_number Unsatisfiable) where
  abbrev used : List ℕ
  used = take (limit.step_bytes * told.value) proof

  used-accepted : proof_checked terms input used ≡ Accepted
  used-accepted =
      let c = (d.tells.verdict Unsatisfiable).0 number in
      let r = verdict-read terms input lent_proof lent_model d.ours d.first Unsatisfiable c in
      rw (d.tells.value, d.leaves_proof) ((d.third r.problem r.reads r.full).accepted c)

  module _ {lent target : List ℕ} {short : Told} (room : limit.proof_bytes terms.limits ≤ length lent) where
    pub used-shortened : BookShortened terms input used lent short target → short.number ≡ 73
    used-shortened s =
        let bytes = take-bytes (limit.step_bytes * told.value) proof d.bytes_left.0 in
        is-shortened s (accepted-both (checks-proof terms few input used bytes) s.shortens.checks used-accepted) room

    -- which are those that are handed back
    pub handed-shortened : {part : Told} → PartHanded terms.limits told.number told.value proof model part
        → BookShortened terms input (take part.value proof) lent short target → short.number ≡ 73
    handed-shortened h s =
        used-shortened (subst (λ (n : ℕ). BookShortened terms input (take n proof) lent short target)
        ((handed few d h).after_unsatisfiable number).1 s)

-- ---- the calls that name an edition
-- what they promise in the one that is named
record At (limits : Limits) (edition : ℕ) : Type 0 where
  named : Edition
  checked : {input proof : List ℕ} {told : Told} → BookCheckedIn limits edition input proof told
      → BookChecked (on limits named) input proof told
  shortened : {input proof lent target : List ℕ} {told : Told} → BookShortenedIn limits edition input proof lent told target
      → BookShortened (on limits named) input proof lent told target
  delivered : {input lent_proof lent_model proof model : List ℕ} {told : SolvedTold}
      → DeliveredIn limits edition input lent_proof lent_model told proof model
      → Delivered (on limits named) input lent_proof lent_model told proof model

at : (limits : Limits) (edition : ℕ) → (Other edition → ⊥) → At limits edition
at limits edition h = ⊎_elim
    (λ e. record { named = First; checked = λ k. k.first e; shortened = λ s. s.first e; delivered = λ d. d.first e })
    (λ e. record { named = Second; checked = λ k. k.second e; shortened = λ s. s.second e; delivered = λ d. d.second e })
    (either-edition edition h)

module _ {limits : Limits} (few : limits.steps ≤ limit.most_steps) {edition : ℕ} {input proof lent target : List ℕ} {check told : Told}
    (k : BookCheckedIn limits edition input proof check) (accepted : check.number ≡ 67)
    (s : BookShortenedIn limits edition input proof lent told target) (room : limit.proof_bytes limits ≤ length lent) where
  here : At limits edition
  here = at limits edition (λ o. omega (arith, k.refused.1 o))

  ok : (here.shortened s).shortens.says ≡ Accepted
  ok = says-accepted (here.checked k) accepted (here.shortened s)

  -- "Write a second book": for one that the check accepts the call says 73
  pub shortened-in : told.number ≡ 73
  shortened-in = is-shortened (here.shortened s) ok room

  -- "The check accepts it for the same question"
  pub short-checked-in : {again : Told} → BookCheckedIn limits edition input (short_book told target) again → again.number ≡ 67
  short-checked-in a = short-checked few (here.shortened s) ok room (here.checked a)

  -- and shortening it gives it back
  pub short-again-in : {other left : List ℕ} {again : Told} → BookShortenedIn limits edition input (short_book told target) other again left
      → limit.proof_bytes limits ≤ length other → SameAgain limits told target again left
  short-again-in r space = short-again few (here.shortened s) ok room (here.shortened r) space

-- the used lines of the book after "cannot agree" in the same edition
pub used-shortened-in : {limits : Limits} → limits.steps ≤ limit.most_steps → {edition : ℕ} {input lent_proof lent_model : List ℕ}
    {told : SolvedTold} {proof model : List ℕ} → DeliveredIn limits edition input lent_proof lent_model told proof model
    → told.number ≡ verdict_number Unsatisfiable → {lent target : List ℕ} {short : Told} → limit.proof_bytes limits ≤ length lent
    → BookShortenedIn limits edition input (take (limit.step_bytes * told.value) proof) lent short target → short.number ≡ 73
unfolding verdict_number
used-shortened-in {limits} few {edition} d number room s =
    let here = at limits edition (λ o. omega (arith, d.refused.1 o)) in
    used-shortened few (here.delivered d) number room (here.shortened s)
