-- `alone::alone` meets its contract: what is left comes to the same. Assumes nothing.
use Prim.Native.Nat.{◌-◌}
use Rattle.kept_rationals.specs.Alone.{Seeking}
use Rattle.kept_rationals.proofs.alone.alone.Given as goal

abbrev pub invariant-loop-i : goal.invariant-loop-i
invariant-loop-i l = Seeking l.input l.from l.r l.at l.i l.found

abbrev pub decreases-loop-i : goal.decreases-loop-i
decreases-loop-i l = l.r - l.i
