-- A step of a proof that is a resolvent of earlier lines: it is not loaded, and names its parents.
use Rattle.std.specs.Prelude.{◌≡◌, List, ℕ, ◌≤◌, length}
use Rattle.std.proofs.Common.{sym, ap, ◌∙◌, arith}
use Rattle.rules_types.specs.Limits as limit
use Rattle.rules_types.specs.Layout as layout
use Rattle.rules.specs.Bytes.{field_at}
use Rattle.rules.specs.Lines.{Line, Variable, rational, boolean}
use Rattle.rules.specs.Steps.{Step, resolved, header, encode_step, step_at}
use Rattle.theory_lists.specs.Places.{element-below}
use Rattle.theory_bytes.specs.Headers.{how-back, parents-back}
use Rattle.theory_checks.specs.Following.{ResolventIn, WrittenAs}
use Rattle.theory_trimming.specs.Statements.{how, first_of, second_of}
use Rattle.theory_trimming.specs.StepFields.{how-at, first-at, second_at}

resolved-header : (v : Variable) (a b : ℕ) → 1 ≤ (header (resolved v a b)).how
unfolding header
resolved-header (rational f) a b = omega arith
resolved-header (boolean f) a b = omega arith

module _ (proof : List ℕ) (j : ℕ) (earlier : List Line) (few : length earlier ≤ limit.most_steps) (l : Line)
    (r : ResolventIn (WrittenAs (step_at proof j)) earlier l) where
  abbrev step : Step
  step = record { origin = resolved r.variable r.first r.second; line = l }

  fields : (field_at layout.step_first 2 (encode_step step) ≡ r.first) × (field_at layout.step_second 2 (encode_step step) ≡ r.second)
  fields =
      let a = element-below earlier r.first r.upper r.at_first in
      let b = element-below earlier r.second r.lower r.at_second in
      parents-back r.variable r.first r.second l (omega arith) (omega arith)

  pub resolvent-first : first_of proof j ≡ r.first
  resolvent-first = sym (first-at proof j) ∙ ap (field_at layout.step_first 2) (sym r.written) ∙ fields.0

  pub resolvent-second : second_of proof j ≡ r.second
  resolvent-second = sym (second_at proof j) ∙ ap (field_at layout.step_second 2) (sym r.written) ∙ fields.1

  pub resolvent-how : 1 ≤ how proof j
  resolvent-how =
      let e : how proof j ≡ (header step.origin).how =
      sym (how-at proof j) ∙ ap (field_at layout.step_how 1) (sym r.written) ∙ how-back step in
      omega (arith, e, resolved-header r.variable r.first r.second)
