-- `access::coefficients_at` meets its contract. Invariant: the first f coefficients are read. Assumes nothing.
use Prim.Native.Nat.{◌-◌, ◌≤◌}
use Rattle.rules_types.specs.Limits.{rationals}
use Rattle.rules_types.specs.Layout.{step_coefficients}
use Rattle.rows.specs.Row.{Filled}
use Rattle.steps.specs.Decoding.{amounts_at}
use Rattle.steps.specs.Places.{step_at}
use Rattle.steps.proofs.access.coefficients_at.Given as goal

abbrev pub invariant-loop-f : goal.invariant-loop-f
invariant-loop-f l = (l.f ≤ rationals) × Filled (amounts_at rationals step_coefficients (step_at l.proof l.i)) l.f l.out

abbrev pub decreases-loop-f : goal.decreases-loop-f
decreases-loop-f l = rationals - l.f
