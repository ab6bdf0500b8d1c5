use mathlib.Core.Path.{◌≡◌, ap, ◌∙◌}
use Prim.Native.Nat.{ℕ, ◌+◌, ◌*◌}
use native.Mathlib.Omega.{arith}
use mir.Syntax.{w64}
use mir.Val.{SFits}
use mir.Facts.{to_z-of_z}
use Rattle.rules_types.specs.Layout as layout
use Rattle.rules.specs.Bytes.{from_unsigned, field_at}
use Rattle.printing.specs.Room.{rational_room}
use Rattle.printing.specs.Texts.{numerator_text, making-none, making-more}
use Rattle.printing.proofs.model.put_numerators.Goals as goal

pub loop-i-init : goal.loop-i-init
loop-i-init c = let a = c.args in making-none a.at rational_room (numerator_text a.model.now a.b) a.out.now

pub loop-i-preserved : goal.loop-i-preserved
loop-i-preserved c =
    let a = c.args in
    let e = c.put_rational-next.ensures in
    let y : c.amount_at-numerator.result ≡ from_unsigned (field_at (layout.model_numerators a.b + 4 * c.loop-i.i) 4 a.model.now) =
    c.amount_at-numerator.ensures ∙ ap (λ (k : ℕ). from_unsigned
    (field_at (k + 4 * c.loop-i.i) 4 a.model.now)) c.model_numerators-numerators.ensures in
    let z : c.u32_at-denominator.result ≡ field_at (layout.model_denominator a.b) 4 a.model.now = c.u32_at-denominator.ensures
    ∙ ap (λ (k : ℕ). field_at k 4 a.model.now) c.model_denominator.ensures in
    let f : SFits w64 c.amount_at-numerator.result = record { sfits = c.amount_at-numerator.type_inv } in
    let t = rw (to_z-of_z f, y, z) at e.appended in
    making-more a.at rational_room (numerator_text a.model.now a.b) a.out.now c.loop-i.i (omega (arith, c.requires.r_in_bounds_2))
    c.loop-i.invariant c.put_rational-next.auto.out t e.upper_bound
