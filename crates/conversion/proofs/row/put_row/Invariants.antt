-- `row::put_row` meets its contract: what is left to be written gives the whole. Assumes nothing.
use Prim.Native.Nat.{◌-◌}
use Rattle.kept_rationals.specs.Kept.{inside}
use Rattle.conversion.specs.Row.{Filling}
use Rattle.conversion.proofs.row.put_row.Given as goal

abbrev pub invariant-loop-f : goal.invariant-loop-f
invariant-loop-f l = Filling (inside l.mask) l.input l.initial.out l.to l.r l.from l.out l.next l.at l.f

abbrev pub decreases-loop-f : goal.decreases-loop-f
decreases-loop-f l = l.r - l.f
