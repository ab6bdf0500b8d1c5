use mathlib.Core.Path.{refl}
use Prim.Native.Nat.{◌+◌, ◌≤◌, ◌<◌}
use native.Mathlib.Omega.{arith}
use lib.ListN.{length}
use Rattle.problem_scan.specs.Values.{clause_at, clause_end}
use Rattle.problem_clauses.specs.Walk.{clause-within, literals-within}
use Rattle.problem_read.specs.Occurring.{gathering-done, gathering-within, gathering-next}
use Rattle.problem_read.proofs.occurring.occurring.Goals as goal
use Rattle.problem_read.proofs.occurring.occurring.Goals.{In-loop-left}

pub loop-left-init : goal.loop-left-init
loop-left-init c = record { end = refl; same = refl }

-- the clause at hand ends in the slice
inside : (c : In-loop-left) → clause_end c.args.input.now c.args.sizes.rationals c.loop-left.at ≤ length c.args.input.now
inside c = gathering-within c.requires c.loop-left.invariant (omega (arith, c.loop-left-test.true))

-- so its first byte and its literals are there
first_byte : (c : In-loop-left) → c.loop-left.at + 1 < length c.args.input.now
first_byte c = clause-within c.args.input.now c.args.sizes.rationals c.loop-left.at (inside c)

pub overflow_add-at : goal.overflow_add-at
overflow_add-at c = omega (arith, first_byte c, c.well_formed)

pub bounds-input-at : goal.bounds-input-at
bounds-input-at c = omega (arith, first_byte (goal.at.bounds-input-at c).In-loop-left)

pub with_variables-mask-requires : goal.with_variables-mask-requires
with_variables-mask-requires c =
    literals-within c.args.input.now c.args.sizes.rationals c.loop-left.at (inside (goal.at.with_variables-mask-requires c).In-loop-left)

pub next-at-requires : goal.next-at-requires
next-at-requires c = inside (goal.at.next-at-requires c).In-loop-left

pub loop-left-preserved : goal.loop-left-preserved
unfolding clause_at
loop-left-preserved c =
    rw c.next-at.ensures
    (gathering-next c.requires c.loop-left.invariant (omega (arith, c.loop-left-test.true)) _
    c.with_variables-mask.ensures)

pub returns : goal.returns
returns c = gathering-done c.requires c.loop-left.invariant c.loop-left-test.false
