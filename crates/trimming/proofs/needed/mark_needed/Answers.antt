use native.Mathlib.Omega.{arith}
use Rattle.rules.specs.Trim.{step_count}
use Rattle.trimming.specs.Needed.{marking-start, marking-next, marking-done}
use Rattle.trimming.proofs.needed.mark_needed.Goals as goal

pub loop-k-init : goal.loop-k-init
unfolding step_count
loop-k-init c =
    marking-start c.args.proof.now c.args.marks.now c.mark.new.marks c.requires.marks_len c.requires.unmarked c.mark.ensures

pub mark_parents-requires : goal.mark_parents-requires
unfolding step_count
mark_parents-requires c =
    let l = c.loop-k in record {
      trimmable = c.requires.trimmable;
      k_bound = omega (arith, l.invariant.few, c.loop-k-test.true);
      marks_len = l.invariant.size;
    }

pub loop-k-preserved : goal.loop-k-preserved
loop-k-preserved c =
    marking-next c.args.proof.now c.loop-k.invariant c.loop-k-test.true _ c.mark_parents.ensures

pub returns : goal.returns
returns c =
    marking-done c.args.proof.now c.loop-k.invariant c.loop-k-test.false
