use mathlib.Core.Path.{◌≡◌, sym, ap, ◌∙◌}
use mathlib.Core.Bool.{not}
use native.Mathlib.Omega.{arith}
use borrow.Author.Rules.{rules}
use lib.IntN.{pos}
use lib.ListN.{length, get_or}
use Rattle.rules_types.specs.Limits as limit
use Rattle.rules.specs.Problem.{in_range}
use Rattle.theory_lists.specs.Scan.{any_at, any_none}
use Rattle.lines.specs.Scan.{scanned-start, scanned-next, told}
use Rattle.lines.proofs.row.overflowing_row.Goals as goal
use Rattle.lines.proofs.row.overflowing_row.Goals.{After-in_range, After-in_range-arg-1}

pub loop-i-init : goal.loop-i-init
loop-i-init c = scanned-start (λ k. not (in_range (get_or c.args.row k (pos 0))))

-- the test at the place
here : (c : After-in_range) → not
    (in_range (get_or c.args.row c.loop-i.i (pos 0))) ≡ not c.in_range.result
here c = ap not (told in_range (get_or c.args.row c.loop-i.i (pos 0))
    (search (rules, (goal.at.After-in_range c).After-in_range-arg-1)) c.in_range.ensures)

pub returns-then-not-in_range : goal.returns-then-not-in_range
returns-then-not-in_range c = let n : length c.args.row ≡ limit.rationals = search rules in
    sym (any_at (pos 0) (λ z. not (in_range z)) c.args.row c.loop-i.i (omega arith)
    (here (goal.at.returns-then-not-in_range c).After-in_range ∙ ap not c.if-not-in_range.true))

pub loop-i-preserved : goal.loop-i-preserved
loop-i-preserved c = scanned-next _ c.loop-i.i c.loop-i.invariant (omega arith)
    (here (goal.at.loop-i-preserved c).After-in_range ∙ ap not c.if-not-in_range.false)

pub returns : goal.returns
returns c =
    let n : length c.args.row ≡ limit.rationals = search rules in
    sym (any_none (pos 0) (λ z. not (in_range z)) c.args.row (λ k h. c.loop-i.invariant.none k (omega arith)))
