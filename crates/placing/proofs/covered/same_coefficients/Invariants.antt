-- `covered::same_coefficients` meets its contract. Invariant: the coefficients left decide. Assumes nothing.
use mathlib.Core.Path.{◌≡◌}
use Prim.Native.Nat.{◌-◌, ◌≤◌}
use Rattle.rules_types.specs.Limits as limit
use Rattle.rules.specs.Lists.{same}
use Rattle.rules.specs.Arithmetic.{equal}
use Rattle.steps.specs.Lines.{line_at}
use Rattle.placing.specs.Tight.{same_from}
use Rattle.placing.proofs.covered.same_coefficients.Given as goal

abbrev pub invariant-loop-f : goal.invariant-loop-f
invariant-loop-f l = (l.f ≤ limit.rationals)
    × (same equal (line_at l.proof l.i).coefficients (line_at l.bytes 0).coefficients ≡ same_from l.proof l.i l.bytes l.f)

abbrev pub decreases-loop-f : goal.decreases-loop-f
decreases-loop-f l = limit.rationals - l.f
