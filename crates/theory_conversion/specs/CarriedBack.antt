-- A model of the new problem that the check accepts in the second edition is carried back, to one that it accepts for the old in the first.
use Rattle.std.specs.Prelude.{◌≡◌, Bool, false, List, ◌++◌, length}
use Rattle.std.proofs.Common.{sym, ap, subst, ◌∙◌}
use Prim.Native.Nat.{ℕ, ◌≤◌}
use Rattle.std.proofs.Math.ListN.{drop}
use Rattle.rules_types.specs.declared.answers.Carried.TheVariants.{Done}
use Rattle.rules_types.specs.declared.answers.Checked.TheVariants.{Accepted}
use Rattle.rules_types.specs.declared.limits.Limits.{Limits}
use Rattle.rules_types.specs.declared.terms.Edition.TheVariants.{First, Second}
use Rattle.rules_types.specs.declared.terms.Terms.{Terms}
use Rattle.rules_types.specs.Limits as limit
use Rattle.rules.specs.Problem.{Problem, in_edition}
use Rattle.rules.specs.Written.{meaning}
use Rattle.rules.specs.Meaning.{Assignment, Satisfies}
use Rattle.rules.specs.Model.{is_open, encode_model}
use Rattle.rules.specs.Convert.{kept, split_problem, written_as, carried_over, carried_over_bytes, over_rationals, carried_back, Carrying}
use Rattle.rules.specs.Convert.{carry_back}
use Rattle.rules.specs.Calls.{sound, read, model_checked}
use Rattle.theory_bytes.specs.Bytes.{AllBytes}
use Rattle.theory_layout.specs.Offsets.{StatesModel}
use Rattle.theory_layout.specs.Models.{Stated, states-got}
use Rattle.theory_splitting.specs.Editions.{posed-first, open-posed}
use Rattle.theory_splitting.specs.WellRead.{read-well-formed}
use Rattle.theory_checks.specs.ModelChecked.{CheckedModel, accepted-clauses, model-checked-satisfies, model-checks}
use Rattle.theory_checks.specs.ModelAccepted.{model-accepted}
use Rattle.theory_conversion.specs.ReadBack.{read-few, read-new}
use Rattle.theory_conversion.specs.Second.{satisfies-second}
use Rattle.theory_conversion.specs.SameSolutions.{new-few, carried-back}
use Rattle.theory_conversion.specs.Carrying.{Carries, carries-done}
use Rattle.theory_conversion.specs.Range.{carried-small}
use Rattle.theory_conversion.specs.CarriedModel.{carried-fits}

module _ (limits : Limits) (input : List ℕ) (h : AllBytes input) (p : Problem) (e : read input ≡ sound p) (bytes target : List ℕ)
    (accepted : model_checked (record { limits = limits; edition = Second }) (carried_over_bytes p) bytes ≡ Accepted)
    (room : limit.model_bytes ≤ length target) where
  abbrev first : Terms
  first = record { limits = limits; edition = First }

  abbrev second : Terms
  second = record { limits = limits; edition = Second }

  abbrev new : Problem
  new = meaning (carried_over p)

  -- ---- what the check found
  checked : CheckedModel second (carried_over_bytes p) bytes
  checked = model-checked-satisfies second (carried_over_bytes p) bytes accepted

  few : over_rationals p ≡ false
  few = read-few input h p e checked.problem checked.reads

  same : checked.problem ≡ new
  same = read-new input h p e checked.problem checked.reads

  new-read : read (carried_over_bytes p) ≡ sound new
  new-read = checked.reads ∙ ap sound same

  states : StatesModel bytes new.booleans new.rationals (is_open new) checked.assignment
  states =
      subst (λ (opens : ℕ → Bool). StatesModel bytes new.booleans new.rationals opens checked.assignment) (open-posed Second new)
      (subst (λ (q : Problem). StatesModel bytes q.booleans q.rationals (is_open (in_edition Second q)) checked.assignment) same
      checked.states)

  -- ---- the assignment that carrying back reads
  was_read : Stated bytes new.booleans new.rationals (is_open new) checked.size
      (read-well-formed (carried_over_bytes p) new new-read).booleans (new-few input h p e few)
  was_read = states-got bytes new.booleans new.rationals (is_open new) checked.size
      (read-well-formed (carried_over_bytes p) new new-read).booleans (new-few input h p e few) checked.assignment states

  abbrev χ : Assignment
  χ = was_read.assignment

  satisfies : Satisfies χ (in_edition Second new)
  satisfies = record {
    denominator = was_read.states.least;
    clauses = (accepted-clauses χ 0 (in_edition Second new).clauses).0
        (sym (model-checks second (carried_over_bytes p) bytes new new-read checked.size χ
        (subst (λ (opens : ℕ → Bool). StatesModel bytes new.booleans new.rationals opens χ) (sym (open-posed Second new))
        was_read.states)) ∙ accepted);
  }

  carries : Carries input bytes target p e
  unfolding carried_back meaning carried_over split_problem written_as
  carries = record {
    few = few;
    size = checked.size;
    room = room;
    assignment = χ;
    rest = was_read.rest;
    place = was_read.place;
    reads = was_read.is;
    range = carried-small (kept p) p.rationals χ.numerators was_read.states.range
        ((satisfies-second new (new-few input h p e few) χ).0 satisfies).1;
  }

  -- ---- so it is carried back, and accepted
  pub carried-done : (carry_back input bytes target).carried ≡ Done
  carried-done = ap (λ (c : Carrying). c.carried) (carries-done input bytes target p e carries)

  pub carried-accepted : model_checked first input (carry_back input bytes target).model ≡ Accepted
  unfolding carries
  carried-accepted =
      let back = carried_back (kept p) χ in
      let rest = drop limit.model_bytes target in
      rw (carries-done input bytes target p e carries)
      (subst (λ (opens : ℕ → Bool). model_checked first input (encode_model p.booleans p.rationals opens back ++ rest) ≡ Accepted)
      (open-posed First p)
      (model-accepted first input p e back rest (carried-fits input h bytes target p e carries)
      (subst (Satisfies back) (sym (posed-first p)) (carried-back input h p e few χ satisfies))))
