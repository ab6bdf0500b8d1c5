use Rattle.rules_types.specs.declared.answers.Refusal.TheVariants as refusal
use Rattle.rules.specs.Problem.{repeat, amount}
use Rattle.problem_scan.specs.Run.{run-start, run-stop, run-next, repeat-more, repeat-done}
use Rattle.problem_scan.specs.Valued.{amount-valued}
use Rattle.problem_scan.proofs.numbers.amounts.Goals as goal

pub loop-left-init : goal.loop-left-init
loop-left-init c =
    run-start c.args.input.now (repeat c.args.count (amount refusal.Amount)) c.args.from c.requires

pub returns-in_default : goal.returns-in_default
returns-in_default c =
    let l = c.loop-left in
    run-stop _ _ (repeat-more (amount refusal.Amount) l.left l.invariant c.loop-left-test.true) c.amount-one.ensures _ _
    c.in_default.is

pub loop-left-preserved : goal.loop-left-preserved
loop-left-preserved c =
    let l = c.loop-left in
    run-next _ _ (repeat-more (amount refusal.Amount) l.left l.invariant c.loop-left-test.true) c.amount-one.ensures
    (amount-valued c.args.input.now refusal.Amount l.at l.invariant.within) _ c.in-Next.is

pub returns : goal.returns
returns c = let l = c.loop-left in repeat-done (amount refusal.Amount) l.left l.invariant c.loop-left-test.false
