-- `insert` meets its contract. Assumes nothing.
use Prim.Native.Nat.{suc}
use native.Mathlib.Omega.{arith}
use Rattle.step_index.specs.Index.{held_all, held-most, extended-low, extended-high}
use Rattle.step_index.proofs.insert.Goals as goal

pub returns-then-i-ge-STEPS : goal.returns-then-i-ge-STEPS
returns-then-i-ge-STEPS c =
    let i = c.args.i in
    record { more = λ key own x. rw (held-most (suc i) (omega arith)) (rw (held-most i (omega arith)) at x) }

pub returns-then-i-lt512 : goal.returns-then-i-lt512
returns-then-i-lt512 c =
    let i = c.args.i in
    record {
      more = λ key own x. rw (held_all (suc i) (omega arith))
          (extended-low own (omega arith) (rw (held_all i (omega arith)) at x) (omega arith));
    }

pub returns-else-i-lt512 : goal.returns-else-i-lt512
returns-else-i-lt512 c =
    let i = c.args.i in
    record {
      more = λ key own x. rw (held_all (suc i) (omega arith))
          (extended-high own (omega arith) (rw (held_all i (omega arith)) at x) (omega arith) (omega arith));
    }
