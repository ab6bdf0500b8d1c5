-- `row::leading` meets its contract. Invariant: the coefficients passed are 0. Assumes nothing.
use mathlib.Core.Bool.{not}
use Prim.Native.Nat.{◌-◌}
use lib.IntN.{pos}
use lib.ListN.{get_or}
use Rattle.rules_types.specs.Limits as limit
use Rattle.rules.specs.Arithmetic.{is_zero}
use Rattle.lines.specs.Scan.{Scanned}
use Rattle.lines.proofs.row.leading.Given as goal

abbrev pub invariant-loop-t : goal.invariant-loop-t
invariant-loop-t l = Scanned (λ k. not (is_zero (get_or l.row (get_or l.order.rationals k 0) (pos 0)))) l.t

abbrev pub decreases-loop-t : goal.decreases-loop-t
decreases-loop-t l = limit.rationals - l.t
