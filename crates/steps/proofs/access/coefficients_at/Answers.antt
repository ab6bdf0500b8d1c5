use mathlib.Core.Path.{sym, ap, ◌∙◌}
use Prim.Native.Nat.{◌+◌, ◌*◌}
use native.Mathlib.Omega.{arith}
use borrow.Author.Rules.{sfits_of}
use mir.Syntax.{w64}
use mir.Facts.{to_z-of_z}
use Rattle.rules_types.specs.Limits.{rationals}
use Rattle.rules_types.specs.Layout.{step_coefficients}
use Rattle.rules.specs.Bytes.{from_unsigned}
use Rattle.rows.specs.Row.{filled_none, filled_more, filled-all}
use Rattle.steps.specs.Decoding.{length-amounts_at, get_or-amounts_at}
use Rattle.steps.specs.Places.{step_at, field-step_at}
use Rattle.steps.proofs.access.coefficients_at.Goals as goal

pub loop-f-init : goal.loop-f-init
loop-f-init c = let a = c.args in
    (omega arith, filled_none _ _ (sym (length-amounts_at rationals step_coefficients (step_at a.proof.now a.i))))

pub loop-f-preserved : goal.loop-f-preserved
loop-f-preserved c =
    let l = c.loop-f in
    let proof = c.args.proof.now in
    let b = step_at proof c.args.i in (
      omega arith,
      filled_more _ l.invariant.1 (omega (arith, length-amounts_at rationals step_coefficients b))
          (to_z-of_z {w = w64} (sfits_of c.coefficient_at.type_inv) ∙ c.coefficient_at.ensures
          ∙ ap from_unsigned (sym (field-step_at proof c.args.i c.requires (step_coefficients + 4 * l.f) 4 (omega arith)))
          ∙ sym (get_or-amounts_at rationals step_coefficients l.f b (omega arith))),
    )

pub returns : goal.returns
returns c =
    let l = c.loop-f in
    let a = c.args in
    filled-all l.invariant.1 (omega (arith, length-amounts_at rationals step_coefficients (step_at a.proof.now a.i)))
