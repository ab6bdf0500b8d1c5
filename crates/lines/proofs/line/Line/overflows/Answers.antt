-- `Line::overflows` meets its contract. Assumes nothing.
use mathlib.Core.Path.{◌≡◌, sym, ap, ◌∙◌}
use mathlib.Core.Bool.{not, true, false}
use mir.Syntax.{w64}
use mir.Val.{SFits}
use mir.Facts.{to_z-of_z}
use Rattle.rules.specs.Lists.{any}
use Rattle.rules.specs.Problem.{in_range}
use Rattle.lines.specs.Forms.{overflows-is}
use borrow.Author.Rules.{rules}
use Rattle.lines.proofs.line.Line.overflows.Goals as goal
use Rattle.lines.proofs.line.Line.overflows.Goals.{After-struct_told-1}

pub returns-then-overflowing_row : goal.returns-then-overflowing_row
returns-then-overflowing_row c =
    let l = c.args.self in
    let e : any (λ z. not (in_range z)) l.coefficients ≡ true = sym c.overflowing_row.ensures ∙ c.if-overflowing_row.true in
    sym (overflows-is l c.requires ∙ rw e)

pub returns : goal.returns
returns c =
    let l = c.args.self in
    let f : SFits w64 l.bound = search (rules, (goal.at.returns c).After-struct_told-1) in
    let e : any (λ z. not (in_range z)) l.coefficients ≡ false = sym c.overflowing_row.ensures
    ∙ c.if-overflowing_row.false in
    ap not (rw (to_z-of_z f) at c.in_range.ensures) ∙ sym (overflows-is l c.requires ∙ rw e)
