use mathlib.Core.Path.{◌≡◌, refl, sym, ap, ◌∙◌}
use mathlib.Core.Bool.{Bool, true, false, not, not-not}
use native.Mathlib.Omega.{arith}
use Prim.Native.Nat.{◌<◌}
use Rattle.rules.specs.Lists.{all}
use Rattle.rules.specs.Arithmetic.{is_zero}
use Rattle.problem_scan.specs.Values.{constraint_at}
use Rattle.problem_scan.specs.Sound.{SoundComparison}
use Rattle.problem_parts.specs.Skip.{skipping-more, skipping-sound, skipping-next}
use Rattle.problem_parts.proofs.skip.skip.Goals as goal
use Rattle.problem_parts.proofs.skip.skip.Goals.{After-stays, At-loop-at}

pub loop-at-init : goal.loop-at-init
loop-at-init c = let h = c.requires in record { each = h.each; same = refl; stays = h.from_value }

-- some constraint is left, and the one at hand is sound
more : (c : At-loop-at) → 0 < c.loop-at.left
more c =
    let l = c.loop-at in
    skipping-more c.args.input.now c.args.second c.args.r c.args.from c.args.count c.args.stay l.at
    l.left l.invariant c.requires.stay_nonzero

sound : (c : At-loop-at) → SoundComparison c.args.input.now c.args.r c.loop-at.at
sound c =
    let l = c.loop-at in
    skipping-sound c.args.input.now c.args.second c.args.r c.args.from c.args.count c.args.stay l.at
    l.left l.invariant c.requires.stay_nonzero

pub stays-requires : goal.stays-requires
stays-requires c = sound c

-- the test that was called is the definition's
zeros-are : (c : After-stays) (t : Bool) → not c.stays.result ≡ t
    → all is_zero (constraint_at c.args.input.now c.args.second c.args.r c.loop-at.at).coefficients ≡ t
zeros-are c t e = sym (not-not _) ∙ sym (ap not c.stays.ensures) ∙ e

pub overflow_add-at : goal.overflow_add-at
overflow_add-at c =
    omega (arith, c.comparison_bytes-size.ensures, (sound (goal.at.overflow_add-at c).At-loop-at).within, c.well_formed)

pub overflow_sub-left : goal.overflow_sub-left
overflow_sub-left c = omega (arith, more (goal.at.overflow_sub-left c).At-loop-at)

pub loop-at-smaller : goal.loop-at-smaller
loop-at-smaller c = omega (arith, more (goal.at.loop-at-smaller c).At-loop-at)

pub loop-at-preserved : goal.loop-at-preserved
loop-at-preserved c =
    let l = c.loop-at in
    rw c.comparison_bytes-size.ensures
    (skipping-next c.args.input.now c.args.second c.args.r c.args.from c.args.count c.args.stay l.at
    l.left l.invariant c.requires.stay_nonzero
    (zeros-are (goal.at.loop-at-preserved c).After-stays true (ap not c.loop-at-test.true)))

pub returns : goal.returns
returns c =
    record {
      more = more (goal.at.returns c).At-loop-at;
      each = c.loop-at.invariant.each;
      same = c.loop-at.invariant.same;
      stays = zeros-are (goal.at.returns c).After-stays false (ap not c.loop-at-test.false);
    }
