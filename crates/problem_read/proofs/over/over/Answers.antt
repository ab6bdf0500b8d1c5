use mathlib.Core.Path.{refl}
use Prim.Native.Nat.{◌≤◌}
use native.Mathlib.Omega.{arith}
use lib.ListN.{length}
use Rattle.problem_scan.specs.Values.{clause_end}
use Rattle.problem_read.specs.Clauses.{end-within}
use Rattle.problem_read.specs.Over.{counting-done, counting-stop, counting-next}
use Rattle.problem_read.proofs.over.over.Goals as goal
use Rattle.problem_read.proofs.over.over.Goals.{In-loop-left}

pub loop-left-init : goal.loop-left-init
loop-left-init c = record { end = refl; few = omega arith; same = refl }

-- the clause at hand ends in the slice
inside : (c : In-loop-left) → clause_end c.args.input.now c.args.r c.loop-left.at ≤ length c.args.input.now
inside c =
    let l = c.loop-left in
    omega (arith, end-within c.args.input.now c.args.r l.left l.at c.loop-left-test.true, l.invariant.end, c.requires)

pub next-behind-requires : goal.next-behind-requires
next-behind-requires c = inside c

pub splits-requires : goal.splits-requires
splits-requires c = inside (goal.at.splits-requires c).In-loop-left

pub overflow_add-total : goal.overflow_add-total
overflow_add-total c = omega (arith, c.loop-left.invariant.few, c.splits.type_inv)

pub returns-then-total-gt-SPLITS : goal.returns-then-total-gt-SPLITS
returns-then-total-gt-SPLITS c =
    counting-stop c.loop-left.invariant c.loop-left-test.true (rw c.splits.ensures at c.if-total-gt-SPLITS.true)

pub loop-left-preserved : goal.loop-left-preserved
loop-left-preserved c =
    rw (c.next-behind.ensures, c.splits.ensures)
    (counting-next c.loop-left.invariant c.loop-left-test.true (rw c.splits.ensures at c.if-total-gt-SPLITS.false))

pub returns : goal.returns
returns c = counting-done c.loop-left.invariant c.loop-left-test.false
