use mathlib.Core.Path.{refl}
use native.Mathlib.Omega.{arith}
use Rattle.problem_scan.specs.Values.{behind-is}
use Rattle.problem_clauses.specs.Literals.{joining-done, joining-next}
use Rattle.problem_clauses.proofs.literals.with_variables.Goals as goal

pub loop-left-init : goal.loop-left-init
loop-left-init c = record { end = refl; same = refl }

pub bounds-input-at : goal.bounds-input-at
bounds-input-at c =
    omega (arith, behind-is 1 c.args.count c.args.from, c.requires, c.loop-left.invariant.end, c.loop-left-test.true)

pub overflow_add-at : goal.overflow_add-at
overflow_add-at c =
    omega (arith, behind-is 1 c.args.count c.args.from, c.requires, c.well_formed, c.loop-left.invariant.end, c.loop-left-test.true)

pub loop-left-preserved : goal.loop-left-preserved
loop-left-preserved c = joining-next c.loop-left.invariant c.loop-left-test.true _ c.with-all.ensures

pub returns : goal.returns
returns c = joining-done c.loop-left.invariant c.loop-left-test.false
