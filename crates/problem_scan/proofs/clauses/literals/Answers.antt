use mathlib.Core.Path.{refl, sym}
use Rattle.rules.specs.Problem.{repeat, literal}
use Rattle.problem_scan.specs.Run.{run-start, run-stop, run-next, repeat-more, repeat-done}
use Rattle.problem_scan.specs.Valued.{literal-valued}
use Rattle.problem_scan.specs.Comparisons.{literal-short, literal-bad, literal-good}
use Rattle.problem_scan.proofs.clauses.literals.Goals as goal

pub loop-left-init : goal.loop-left-init
loop-left-init c = run-start c.args.input.now (repeat c.args.count (literal c.args.b)) c.args.from c.requires

pub returns-then-input-at : goal.returns-then-input-at
returns-then-input-at c =
    let l = c.loop-left in
    let a = c.args in
    run-stop _ _ (repeat-more (literal a.b) l.left l.invariant c.loop-left-test.true)
    (sym (literal-short a.input.now l.at a.b l.invariant.within c.if-input-at.true)) _ _ refl

pub returns-then-b-input : goal.returns-then-b-input
returns-then-b-input c =
    let l = c.loop-left in
    let a = c.args in
    run-stop _ _ (repeat-more (literal a.b) l.left l.invariant c.loop-left-test.true)
    (sym (literal-bad a.input.now l.at a.b c.if-input-at.false c.if-b-input.true)) _ _ refl

pub loop-left-preserved : goal.loop-left-preserved
loop-left-preserved c =
    let l = c.loop-left in
    let a = c.args in
    run-next _ _ (repeat-more (literal a.b) l.left l.invariant c.loop-left-test.true)
    (sym (literal-good a.input.now l.at a.b c.if-input-at.false c.if-b-input.false))
    (literal-valued a.input.now a.b l.at l.invariant.within) _ refl

pub returns : goal.returns
returns c = let l = c.loop-left in repeat-done (literal c.args.b) l.left l.invariant c.loop-left-test.false
