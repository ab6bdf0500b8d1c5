use Prim.Native.Nat.{◌^◌, ◌<◌}
use native.Mathlib.Omega.{arith}
use lib.Count.{ones-le}
use lib.ListN.{get_or}
use Rattle.trimming.specs.Numbers.{counting-start, counting-next, counting-done}
use Rattle.trimming.proofs.numbers.count_words.Goals as goal
use Rattle.trimming.proofs.numbers.count_words.Goals.{After-shared_slice_known-1}

pub loop-w-init : goal.loop-w-init
loop-w-init c = counting-start c.args.marks.now c.args.before.now c.requires.before_len

pub overflow_cast-before : goal.overflow_cast-before
overflow_cast-before c = omega (arith, c.loop-w.invariant.small, c.loop-w.invariant.few)

pub bounds-before-w : goal.bounds-before-w
bounds-before-w c = omega (arith, c.loop-w.invariant.size, c.loop-w-test.true)

-- a word has 32 bits
fits : (c : After-shared_slice_known-1) → get_or c.args.marks.now c.loop-w.w 0 < 2 ^ 32
fits c = omega (arith, c.shared_slice_known-1.given c.loop-w.w)

pub overflow_add-n : goal.overflow_add-n
overflow_add-n c =
    let l = c.loop-w in
    omega (arith, l.invariant.small, l.invariant.few, ones-le 32 (get_or c.args.marks.now l.w 0) (fits c))

pub loop-w-preserved : goal.loop-w-preserved
loop-w-preserved c =
    counting-next c.args.marks.now c.loop-w.invariant c.loop-w-test.true (fits c)

pub returns : goal.returns
returns c = counting-done c.args.marks.now c.loop-w.invariant c.loop-w-test.false
