use Rattle.std.proofs.Common.{◌≡◌, ◌≤◌, ◌+◌, ◌*◌, arith, length}
use Rattle.rules.specs.Meaning.{literal_holds}
use Rattle.problem_scan.specs.Values.{behind-is, literal_at}
use Rattle.problem_clauses.specs.Literals.{literal_of}
use Rattle.models.specs.Model.{assignment}
use Rattle.model_check.specs.Any.{asking-done, asking-passed, asking-next}
use Rattle.model_check.proofs.clause.any_literal.Goals as goal
use Rattle.model_check.proofs.clause.any_literal.Goals.{After-literal_holds, Start}

-- the bytes are within the slice
within : (s : Start) → s.args.from + s.args.count ≤ length s.args.input.now
within s = omega (arith, s.requires, behind-is 1 s.args.count s.args.from)

pub overflow_add-from : goal.overflow_add-from
overflow_add-from c = omega (arith, within (goal.at.overflow_add-from c).Start, c.well_formed)

pub bounds-input-from : goal.bounds-input-from
bounds-input-from c = omega (arith, within (goal.at.bounds-input-from c).Start)

-- the test that was called is the definition's
tested : (c : After-literal_holds) → c.literal_holds.result
    ≡ literal_holds (assignment c.args.model) (literal_at c.args.input.now (c.args.from + c.loop-i.i * 1))
unfolding literal_at literal_of
tested c = let z : c.args.from + c.loop-i.i * 1 ≡ c.args.from + c.loop-i.i = omega arith in rw z c.literal_holds.ensures

pub returns-then-literal_holds : goal.returns-then-literal_holds
returns-then-literal_holds c =
    asking-passed c.loop-i.invariant c.loop-i-test.true c.literal_holds.result
    (tested (goal.at.returns-then-literal_holds c).After-literal_holds) c.if-literal_holds.true

pub loop-i-preserved : goal.loop-i-preserved
loop-i-preserved c =
    asking-next c.loop-i.invariant c.loop-i-test.true c.literal_holds.result
    (tested (goal.at.loop-i-preserved c).After-literal_holds) c.if-literal_holds.false

pub returns : goal.returns
returns c = asking-done c.loop-i.invariant c.loop-i-test.false
