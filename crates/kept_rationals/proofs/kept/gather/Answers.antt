use Prim.Native.Nat.{◌≤◌}
use native.Mathlib.Omega.{arith}
use lib.ListN.{length}
use Rattle.problem_scan.specs.Values.{clause_end}
use Rattle.problem_clauses.specs.Walk.{count-within}
use Rattle.kept_rationals.specs.Kept.{keeping_start, keeping-done, keeping-within, keeping-next}
use Rattle.kept_rationals.proofs.kept.gather.Goals as goal
use Rattle.kept_rationals.proofs.kept.gather.Goals.{In-loop-left}

pub loop-left-init : goal.loop-left-init
loop-left-init c = keeping_start c.requires

-- the clause at hand ends in the slice
within : (c : In-loop-left) → clause_end c.args.input.now c.args.sizes.rationals c.loop-left.at ≤ length c.args.input.now
within c = keeping-within c.requires c.loop-left.invariant c.loop-left-test.true

pub kept_by-one-requires : goal.kept_by-one-requires
kept_by-one-requires c = within c

pub joined-mask-requires : goal.joined-mask-requires
joined-mask-requires c = c.requires.parsed.rationals

pub count_place-requires : goal.count_place-requires
count_place-requires c = count-within _ _ _ (within (goal.at.count_place-requires c).In-loop-left)

pub bounds-input-count_place : goal.bounds-input-count_place
bounds-input-count_place c =
    omega (arith, c.count_place.ensures, count-within _ _ _ (within (goal.at.bounds-input-count_place c).In-loop-left))

pub overflow_add-comparisons : goal.overflow_add-comparisons
overflow_add-comparisons c =
    omega (arith, c.shared_slice_known-in-loop-left-1.given c.count_place.result, c.loop-left.invariant.few)

pub next-at-requires : goal.next-at-requires
next-at-requires c = within (goal.at.next-at-requires c).In-loop-left

pub loop-left-preserved : goal.loop-left-preserved
loop-left-preserved c =
    rw c.next-at.ensures
    (keeping-next c.requires c.loop-left.invariant c.loop-left-test.true _ _ c.kept_by-one.ensures
    c.joined-mask.ensures _ c.count_place.ensures (omega (arith, c.shared_slice_known-in-loop-left-1.given c.count_place.result)))

pub returns : goal.returns
returns c = record {
  mask = (keeping-done c.requires c.loop-left.invariant c.loop-left-test.false).0;
  comparisons = (keeping-done c.requires c.loop-left.invariant c.loop-left-test.false).1.0;
  few =
      (keeping-done c.requires c.loop-left.invariant c.loop-left-test.false).1.1;
}
