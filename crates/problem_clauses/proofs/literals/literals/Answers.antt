use native.Mathlib.Omega.{arith}
use Rattle.problem_scan.specs.Values.{behind-is}
use Rattle.problem_clauses.specs.Literals.{gathered-start, gathered-done, gathered_next}
use Rattle.problem_clauses.proofs.literals.literals.Goals as goal

pub loop-left-init : goal.loop-left-init
loop-left-init c = gathered-start c.args.input.now c.args.from c.args.count

pub overflow_add-from : goal.overflow_add-from
overflow_add-from c =
    omega (arith, behind-is 1 c.args.count c.args.from, c.requires, c.well_formed, c.loop-left.invariant.few)

pub bounds-input-from : goal.bounds-input-from
bounds-input-from c =
    omega (arith, behind-is 1 c.args.count c.args.from, c.requires, c.loop-left.invariant.few, c.loop-left-test.true)

pub loop-left-preserved : goal.loop-left-preserved
loop-left-preserved c =
    gathered_next c.loop-left.invariant c.loop-left-test.true _ _ c.including-l.ensures.positive c.including-l.ensures.negative

pub returns : goal.returns
returns c = record {
  positive = (gathered-done c.loop-left.invariant c.loop-left-test.false).0;
  negative = (gathered-done c.loop-left.invariant c.loop-left-test.false).1;
}
