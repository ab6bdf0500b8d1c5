use Rattle.std.proofs.Common.{arith}
use Rattle.rules_types.specs.Layout.{comparison_bytes}
use Rattle.problem_scan.specs.Sound.{SoundComparison}
use Rattle.model_check.specs.Any.{value-within, each_at, asking-done, asking-passed, asking-next}
use Rattle.model_check.proofs.clause.any_comparison.Goals as goal

pub overflow_add-from : goal.overflow_add-from
overflow_add-from c =
    rw c.comparison_bytes-size.ensures (omega (
      arith,
      value-within (comparison_bytes c.args.r) c.args.from c.args.count c.loop-i.i c.loop-i-test.true,
      c.requires.from_in_bounds,
      c.well_formed,
    ))

pub comparison_holds-requires-clause-sound_comparison : goal.comparison_holds-requires-clause-sound_comparison
comparison_holds-requires-clause-sound_comparison c =
    rw c.comparison_bytes-size.ensures
    (each_at (SoundComparison c.args.input.now c.args.r) (comparison_bytes c.args.r) c.args.count c.args.from c.loop-i.i
    c.loop-i-test.true c.requires.each)

pub returns-then-comparison_holds : goal.returns-then-comparison_holds
returns-then-comparison_holds c =
    asking-passed c.loop-i.invariant c.loop-i-test.true c.comparison_holds.result
    (rw c.comparison_bytes-size.ensures at c.comparison_holds.ensures) c.if-comparison_holds.true

pub loop-i-preserved : goal.loop-i-preserved
loop-i-preserved c =
    asking-next c.loop-i.invariant c.loop-i-test.true c.comparison_holds.result
    (rw c.comparison_bytes-size.ensures at c.comparison_holds.ensures) c.if-comparison_holds.false

pub returns : goal.returns
returns c = asking-done c.loop-i.invariant c.loop-i-test.false
