-- What joins converting, the checks of the new problem in the second edition, carrying back, and the check of the old one in the first.
-- The premises are the records of the calls' own `ensures` (jemuling/specs/Promised.antt).
use Rattle.std.specs.Prelude.{◌≡◌, refl, List, ℕ, ◌≤◌, length, take}
use Rattle.std.proofs.Common.{sym, subst}
use Rattle.rules_types.specs.declared.answers.Carried.TheVariants.{Done}
use Rattle.rules_types.specs.declared.answers.Checked.TheVariants.{Accepted}
use Rattle.rules_types.specs.declared.answers.Converted.TheVariants.{Length}
use Rattle.rules_types.specs.declared.limits.Limits.{Limits}
use Rattle.rules_types.specs.declared.terms.Edition.TheVariants.{First, Second}
use Rattle.rules_types.specs.Limits as limit
use Rattle.rules_types.specs.Terms.{on}
use Rattle.rules.specs.Problem.{Problem}
use Rattle.rules.specs.Calls.{sound, read, model_checked}
use Rattle.theory_layout.specs.Fields.{take-bytes}
use Rattle.promises.specs.Decided.{NoAssignment}
use Rattle.promises.specs.Checked.{model-exactly}
use Rattle.promises.specs.CarriedOver.{NewProblem}
use Rattle.promises.specs.OneNew.{SameNew, same_new}
use Rattle.jemuling.specs.declared.told.Told.{Told}
use Rattle.jemuling.specs.Promised.{SheetChecked, BookCheckedIn, SheetCheckedIn, ProblemConverted, ModelCarriedBack}

-- a sheet for which a check returns 67 the definition accepts, and the other way round
module _ {limits : Limits} {input model : List ℕ} {told : Told} (p : Problem) (e : read input ≡ sound p) where
  accepted-in : SheetChecked (on limits Second) input model told → told.number ≡ 67
      → model_checked (on limits Second) input model ≡ Accepted
  accepted-in k n = (model-exactly (on limits Second) input p e model).1 ((k.checks.accepted p e).0 (k.tells.accepted.0 n))

  told-accepted : SheetChecked (on limits First) input model told → model_checked (on limits First) input model ≡ Accepted
      → told.number ≡ 67
  told-accepted k a = k.tells.accepted.1 ((k.checks.accepted p e).1 ((model-exactly (on limits First) input p e model).0 a))

-- ---- `lent_output` is the buffer before converting, `output` what it left there: the new problem is in its first bytes
module _ {input lent_output output : List ℕ} {converted : Told} (c : ProblemConverted input lent_output converted output)
    (number : converted.number ≡ 71) where
  abbrev n : ℕ
  n = converted.value

  says : c.ours.converted ≡ Length n
  says = (c.tells.length n).0 (number, refl)

  -- "The new question has a solution in edition 2 exactly if the old one has in edition 1": so a book for which the check of the new
  -- problem returns 67 shows that no choice satisfies the old
  pub refuted : {limits : Limits} {proof : List ℕ} {check : Told} → BookCheckedIn limits 2 (take n output) proof check
      → check.number ≡ 67 → (p : Problem) → read input ≡ sound p → NoAssignment p
  refuted k accepted p e χ s =
      let new = subst (λ (s : List ℕ). NewProblem p (take n s)) (sym c.leaves) (c.converts.new p e n says) in
      let book = k.second refl in
      let ξ = new.solutions.0 (χ, s) in
      book.checks.refutes new.problem new.reads (book.tells.accepted.0 accepted) ξ.0 ξ.1

  same : SameNew input lent_output n (take n output)
  same =
      subst (λ (s : List ℕ). SameNew input lent_output n (take n s)) (sym c.leaves)
      (same_new input lent_output c.bytes c.ours c.converts n says
      (take-bytes n c.ours.output (rw c.leaves at c.bytes_left)))

  -- `lent` is the target before carrying back, `target` what it left there
  module _ {limits : Limits} {model lent target : List ℕ} {check back : Told}
      (k : SheetCheckedIn limits 2 (take n output) model check) (accepted : check.number ≡ 67)
      (b : ModelCarriedBack input model lent back target) (room : limit.model_bytes ≤ length lent) where
    carried : (b.ours.carried ≡ Done) × (model_checked (on limits First) input b.ours.model ≡ Accepted)
    carried =
        let new = same.is_new in
        b.carries.accepted limits lent_output n same.says
        (rw same.writes (accepted-in new.problem new.reads (k.second refl) accepted)) room

    -- "a sheet of the new that the check accepts is carried back"
    pub carried-number : back.number ≡ 72
    carried-number = b.tells.done.1 carried.0

    -- "to one that satisfies the old": both checks of the old problem in the first edition accept it
    pub carried-sheet : (again : Told) → SheetChecked (on limits First) input target again → again.number ≡ 67
    carried-sheet again h =
        told-accepted same.problem same.reads h
        (subst (λ (s : List ℕ). model_checked (on limits First) input s ≡ Accepted) (sym b.leaves) carried.1)

    pub carried-sheet-in : (again : Told) → SheetCheckedIn limits 1 input target again → again.number ≡ 67
    carried-sheet-in again h = carried-sheet again (h.first refl)
