use mathlib.Core.Path.{sym, ◌∙◌}
use Prim.Native.Nat.{◌+◌}
use native.Mathlib.Omega.{arith}
use Rattle.steps.specs.Origin.{named-loaded}
use Rattle.elimination.specs.Added.{added-start, added-done, added-ended, added_next}
use Rattle.elimination.proofs.load.load_added.Goals as goal

pub loop-f-init : goal.loop-f-init
loop-f-init c = added-start c.requires.standing

pub returns-then-not-is_running : goal.returns-then-not-is_running
returns-then-not-is_running c = added-ended c.loop-f.invariant (sym c.is_running.ensures ∙ c.if-not-is_running.true)

pub overflow_add-n : goal.overflow_add-n
overflow_add-n c =
    omega (arith, c.loop-f-test.true, c.requires.count_bound)

pub non_negative-requires : goal.non_negative-requires
non_negative-requires c =
    omega (arith, c.loop-f-test.true, c.requires.count_le_rationals)

pub admit-p-requires : goal.admit-p-requires
admit-p-requires c = record {
  standing = c.loop-f.invariant.leads.standing;
  ready = c.non_negative.ensures.ready;
  named = rw c.loaded.ensures
      (named-loaded (c.args.n + c.loop-f.f) 0 (omega (arith, c.loop-f-test.true, c.requires.count_bound)) (omega arith));
}

pub overflow_add-f : goal.overflow_add-f
overflow_add-f c =
    omega (arith, c.loop-f-test.true, c.requires.count_le_rationals)

pub loop-f-preserved : goal.loop-f-preserved
loop-f-preserved c =
    added_next c.loop-f.invariant c.loop-f-test.true (sym c.is_running.ensures ∙ c.if-not-is_running.false)
    c.non_negative.result c.non_negative.ensures.result_value (rw c.loaded.ensures at c.admit-p.ensures)

pub returns : goal.returns
returns c = added-done c.loop-f.invariant c.loop-f-test.false
