use mathlib.Core.Path.{◌≡◌, sym, ap, ◌∙◌}
use mathlib.Core.Bool.{not}
use Prim.Native.Nat.{ℕ}
use native.Mathlib.Omega.{arith}
use borrow.Author.Rules.{rules}
use lib.IntN.{pos}
use lib.ListN.{length, get_or}
use Rattle.rules_types.specs.Limits as limit
use Rattle.rules.specs.Arithmetic.{is_zero}
use Rattle.lines.specs.Scan.{scanned-start, scanned-next, told}
use Rattle.lines.specs.Forms.{leading_at, leading-none}
use Rattle.lines.proofs.row.leading.Goals as goal
use Rattle.lines.proofs.row.leading.Goals.{After-is_zero, After-is_zero-arg-1, Start}

pub loop-t-init : goal.loop-t-init
loop-t-init c = scanned-start _

-- the test at the place
here : (c : After-is_zero) → let a = c.args in
    not (is_zero (get_or a.row (get_or a.order.rationals c.loop-t.t 0) (pos 0))) ≡ not c.is_zero.result
here c =
    let a = c.args in
    ap (λ (f : ℕ). not (is_zero (get_or a.row f (pos 0)))) (sym c.rational-f.ensures.value)
    ∙ ap not (told is_zero (get_or a.row c.rational-f.result (pos 0))
    (search (rules, (goal.at.After-is_zero c).After-is_zero-arg-1)) c.is_zero.ensures)

-- a round for each rational variable
row : (s : Start) → length s.args.order.rationals ≡ limit.rationals
row s = search (rules, s.well_formed)

pub returns-then-not-is_zero : goal.returns-then-not-is_zero
returns-then-not-is_zero c =
    let a = c.args in
    sym (leading_at a.order.rationals a.row c.loop-t.t a.rest c.loop-t.invariant.none
    (omega (arith, row (goal.at.returns-then-not-is_zero c).Start))
    (here (goal.at.returns-then-not-is_zero c).After-is_zero ∙ ap not c.if-not-is_zero.true))

pub loop-t-preserved : goal.loop-t-preserved
loop-t-preserved c = scanned-next _ c.loop-t.t c.loop-t.invariant (omega arith)
    (here (goal.at.loop-t-preserved c).After-is_zero ∙ ap not c.if-not-is_zero.false)

pub returns : goal.returns
returns c =
    let a = c.args in
    let n = row (goal.at.returns c).Start in
    let e = leading-none a.order.rationals a.row a.rest (λ k h. c.loop-t.invariant.none k (omega arith)) in
    omega (arith, c.boolean_round.ensures, e)
