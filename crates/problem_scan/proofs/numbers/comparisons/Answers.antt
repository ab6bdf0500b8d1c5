use mathlib.Core.Path.{◌≡◌, sym, subst, ◌∙◌}
use mathlib.Core.Bool.{Bool, false, ◌||◌}
use Prim.Native.Nat.{ℕ, ◌-◌}
use native.Mathlib.Omega.{arith}
use lib.ListN.{drop}
use mathlib.Core.List.{List}
use Rattle.problem_scan.specs.declared.cursor.Cursor.{Cursor}
use Rattle.rules.specs.Problem.{is_equality, comparisons}
use Rattle.problem_scan.specs.Seen.{seen}
use Rattle.problem_scan.specs.Run.{Run, run-start, run-stop, run-next, comparisons-more, comparisons-done}
use Rattle.problem_scan.specs.Values.{comparison_at}
use Rattle.problem_scan.specs.Valued.{comparison-valued, seen-valued}
use Rattle.problem_scan.proofs.numbers.comparisons.Goals as goal

-- whether an = stands before the next one, by another name
with-equated : (q : List ℕ) (all : Cursor) (left r next : ℕ) (e b : Bool) → Run q all (comparisons left e r) next → b ≡ e
    → Run q all (comparisons left b r) next
with-equated q all left r next e b run is = subst (λ (t : Bool). Run q all (comparisons left t r) next) (sym is) run

pub loop-left-init : goal.loop-left-init
loop-left-init c =
    run-start c.args.input.now (comparisons c.args.count false c.args.r) c.args.from c.requires

pub returns-in_default : goal.returns-in_default
returns-in_default c =
    let l = c.loop-left in
    run-stop _ _ (comparisons-more c.args.r l.equated l.left l.invariant c.loop-left-test.true) c.comparison-one.ensures _ _
    c.in_default.is

pub bounds-input-at : goal.bounds-input-at
bounds-input-at c =
    let l = c.loop-left in
    let v = comparison-valued c.args.input.now l.equated c.args.r l.at l.invariant.within in
    omega (arith, (seen-valued v _ (sym c.comparison-one.ensures ∙ c.in-Next.is)).2.within)

pub loop-left-preserved : goal.loop-left-preserved
unfolding comparison_at
loop-left-preserved c =
    let l = c.loop-left in
    let g = c.args in
    let q = g.input.now in
    let next = run-next _ _ (comparisons-more g.r l.equated l.left l.invariant c.loop-left-test.true) c.comparison-one.ensures
    (comparison-valued q l.equated g.r l.at l.invariant.within) _ c.in-Next.is in
    with-equated q (seen (comparisons g.count false g.r (drop g.from q) g.from)) (l.left - 1) g.r c.in-Next.next
    (l.equated || is_equality (comparison_at q g.r l.at).relation) _ next (grind arith)

pub returns : goal.returns
returns c =
    let l = c.loop-left in
    comparisons-done c.args.r l.equated l.left l.invariant c.loop-left-test.false
