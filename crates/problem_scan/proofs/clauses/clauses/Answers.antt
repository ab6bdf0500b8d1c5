use Rattle.problem_scan.specs.Clauses.{clause_of, clauses_of}
use Rattle.problem_scan.specs.Run.{run-start, run-stop, run-next, repeat-more, repeat-done}
use Rattle.problem_scan.specs.Valued.{clause-valued}
use Rattle.problem_scan.proofs.clauses.clauses.Goals as goal

pub loop-left-init : goal.loop-left-init
loop-left-init c =
    run-start c.args.input.now (clauses_of c.args.sizes) c.args.from c.requires

pub returns-in_default : goal.returns-in_default
returns-in_default c =
    let l = c.loop-left in
    run-stop _ _ (repeat-more (clause_of c.args.sizes) l.left l.invariant c.loop-left-test.true) c.clause-one.ensures _ _
    c.in_default.is

pub loop-left-preserved : goal.loop-left-preserved
loop-left-preserved c =
    let l = c.loop-left in
    run-next _ _ (repeat-more (clause_of c.args.sizes) l.left l.invariant c.loop-left-test.true) c.clause-one.ensures
    (clause-valued c.args.input.now c.args.sizes.booleans c.args.sizes.rationals l.at l.invariant.within) _
    c.in-Next.is

pub returns : goal.returns
returns c =
    let l = c.loop-left in
    repeat-done (clause_of c.args.sizes) l.left l.invariant c.loop-left-test.false
