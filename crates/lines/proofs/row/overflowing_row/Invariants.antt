-- `row::overflowing_row` meets its contract. Invariant: the coefficients passed are amounts. Assumes nothing.
use mathlib.Core.Bool.{not}
use Prim.Native.Nat.{◌-◌}
use lib.IntN.{pos}
use lib.ListN.{get_or}
use Rattle.rules_types.specs.Limits as limit
use Rattle.rules.specs.Problem.{in_range}
use Rattle.lines.specs.Scan.{Scanned}
use Rattle.lines.proofs.row.overflowing_row.Given as goal

abbrev pub invariant-loop-i : goal.invariant-loop-i
invariant-loop-i l = Scanned (λ k. not (in_range (get_or l.row k (pos 0)))) l.i

abbrev pub decreases-loop-i : goal.decreases-loop-i
decreases-loop-i l = limit.rationals - l.i
