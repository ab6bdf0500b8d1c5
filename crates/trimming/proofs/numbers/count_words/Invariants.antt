-- `numbers::count_words` meets its contract. Invariant: so many are marked before each word so far. Assumes nothing.
use Prim.Native.Nat.{◌-◌}
use Rattle.trimming.specs.Marks.{words}
use Rattle.trimming.specs.Numbers.{Counting}
use Rattle.trimming.proofs.numbers.count_words.Given as goal

abbrev pub invariant-loop-w : goal.invariant-loop-w
invariant-loop-w l = Counting l.marks l.before l.n l.w

abbrev pub decreases-loop-w : goal.decreases-loop-w
decreases-loop-w l = words - l.w
