use mathlib.Core.Path.{◌≡◌, sym, ◌∙◌}
use native.Mathlib.Omega.{arith}
use borrow.Author.Rules.{rules, sfits_of}
use lib.IntN.{pos}
use lib.ListN.{length, get_or}
use mir.Syntax.{w64}
use mir.Val.{SFits}
use mir.Facts.{to_z-of_z}
use Rattle.rules_types.specs.Limits as limit
use Rattle.theory_vectors.specs.Constraint.{quotients, length-quotients, get_or-quotients}
use Rattle.rows.specs.Row.{filled_none, filled_more, filled-all, quotients-one}
use Rattle.rows.proofs.content.divide.Goals as goal
use Rattle.rows.proofs.content.divide.Goals.{After-z-1}

pub returns-then-g-eq1 : goal.returns-then-g-eq1
returns-then-g-eq1 c = rw c.if-g-eq1.true (sym (quotients-one c.args.row))

pub loop-i-init : goal.loop-i-init
loop-i-init c =
    let row = c.args.row in
    let h : length row ≡ limit.rationals = search rules in
    (omega arith, h, filled_none _ _ (sym (length-quotients c.args.g row ∙ h)))

pub loop-i-preserved : goal.loop-i-preserved
loop-i-preserved c =
    let l = c.loop-i in
    let row = c.args.row in
    let g = c.args.g in
    let f : SFits w64 (get_or row l.i (pos 0)) = search (rules, (goal.at.loop-i-preserved c).After-z-1) in
    let e : c.quotient.result ≡ get_or (quotients g row) l.i (pos 0) = (rw (to_z-of_z f) at c.quotient.ensures)
    ∙ sym (get_or-quotients g row l.i) in (
      omega arith,
      l.invariant.1,
      filled_more _ l.invariant.2 (omega (arith, length-quotients g row)) (to_z-of_z {w = w64} (sfits_of c.quotient.type_inv) ∙ e),
    )

pub returns : goal.returns
returns c =
    let l = c.loop-i in
    filled-all l.invariant.2 (omega (arith, length-quotients c.args.g c.args.row))
