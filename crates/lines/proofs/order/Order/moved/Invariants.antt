-- `Order::moved` meets its contract. Invariant: what stood from j on is one place later. Assumes nothing.
use mathlib.Core.Path.{◌≡◌}
use Prim.Native.Nat.{◌≤◌}
use Rattle.lines.specs.Order.{shifted}
use Rattle.lines.proofs.order.Order.moved.Given as goal

abbrev pub invariant-loop-j : goal.invariant-loop-j
invariant-loop-j l = (l.to ≤ l.j) × (l.j ≤ l.from) × (l.list ≡ shifted l.from l.j l.initial.list)

abbrev pub decreases-loop-j : goal.decreases-loop-j
decreases-loop-j l = l.j
