-- `constraint::row` meets its contract: the first i amounts are read, and 0 stands behind them.
use Prim.Native.Nat.{◌-◌}
use Rattle.problem_parts.specs.Constraint.{RowRead}
use Rattle.problem_parts.proofs.constraint.row.Given as goal

abbrev pub invariant-loop-i : goal.invariant-loop-i
invariant-loop-i l = RowRead l.input l.from l.count l.out l.at l.i

abbrev pub decreases-loop-i : goal.decreases-loop-i
decreases-loop-i l = l.count - l.i
