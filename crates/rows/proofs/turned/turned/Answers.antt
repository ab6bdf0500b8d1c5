use mathlib.Core.Path.{◌≡◌, sym, ap, ◌∙◌, subst}
use mathlib.Core.Bool.{true}
use mathlib.Core.List.{map}
use Prim.Native.Nat.{◌^◌, ◌<◌}
use native.Mathlib.Omega.{arith}
use borrow.Author.Rules.{rules, sfits_of}
use lib.IntN.{ℤ, pos, nat_abs}
use lib.ListN.{length, get_or, length-map}
use mir.Syntax.{w64}
use mir.Val.{SFits, to_z, of_z}
use mir.Facts.{to_z-of_z}
use Rattle.rules_types.specs.Limits as limit
use Rattle.rules.specs.Readings.{signed}
use Rattle.theory_vectors.specs.Signed.{get_or-signed}
use Rattle.rows.specs.Row.{filled_none, filled_more, filled-all}
use Rattle.rows.proofs.turned.turned.Goals as goal
use Rattle.rows.proofs.turned.turned.Goals.{After-z-1}

pub loop-i-init : goal.loop-i-init
loop-i-init c =
    let row = c.args.row in
    let h : length row ≡ limit.rationals = search rules in
    (omega arith, h, filled_none _ _ (sym (length-map row (signed true) ∙ h)))

-- the element at hand
read_is : (c : After-z-1) → let z = get_or c.args.row c.loop-i.i (pos 0) in
    to_z w64 (of_z w64 z) ≡ z
read_is c =
    let f : SFits w64 (get_or c.args.row c.loop-i.i (pos 0)) = search (rules, c) in
    to_z-of_z f

pub signed-requires : goal.signed-requires
signed-requires c =
    let h = c.requires.small c.loop-i.i in
    subst (λ (z : ℤ). nat_abs z < 2 ^ 63) (sym (read_is c)) (omega (arith, h))

pub loop-i-preserved : goal.loop-i-preserved
loop-i-preserved c =
    let l = c.loop-i in
    let row = c.args.row in
    let e : c.signed.result ≡ get_or (map (signed true) row) l.i (pos 0) =
    c.signed.ensures ∙ ap (signed true) (read_is (goal.at.loop-i-preserved c).After-z-1) ∙ sym (get_or-signed true row l.i) in (
      omega arith,
      l.invariant.1,
      filled_more _ l.invariant.2 (omega (arith, length-map row (signed true), l.invariant.1))
          (to_z-of_z {w = w64} (sfits_of c.signed.type_inv) ∙ e),
    )

pub returns : goal.returns
returns c =
    let l = c.loop-i in
    filled-all l.invariant.2 (omega (arith, length-map c.args.row (signed true), l.invariant.1))
