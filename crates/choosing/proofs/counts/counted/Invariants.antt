-- `counts::counted` meets its contract. Invariant: the lines before i are counted. Assumes nothing.
use lib.ListN.{take}
use Rattle.steps.specs.Held.{steps_in}
use Rattle.choosing.specs.Counts.{Counted}
use Rattle.choosing.proofs.counts.counted.Given as goal

abbrev pub invariant-loop-i : goal.invariant-loop-i
invariant-loop-i l = Counted (take l.t l.order.rationals) (steps_in l.proof l.i) l.counts
