-- `sign::in_range` meets its contract: both ends of the range are asked.
use mathlib.Core.Path.{ap, ◌∙◌}
use lib.IntN.{ℤ, pos}
use lib.Signed.{le_z}
use mir.Syntax.{w64}
use mir.Facts.{to_z-of_z}
use borrow.Author.Rules.{rules}
use Rattle.rules_types.specs.Limits.{amount}
use Rattle.machine.specs.Signed.{range-above, range-below}
use Rattle.machine.proofs.sign.in_range.Goals as goal

pub returns-then-limit-z : goal.returns-then-limit-z
returns-then-limit-z c =
    ap (λ (z : ℤ). le_z z (pos amount)) (to_z-of_z {w = w64} c.ranges.z)
    ∙ range-above c.args.z (rw (to_z-of_z {w = w64} c.ranges.z) at c.if-limit-z.true)

pub returns-else-limit-z : goal.returns-else-limit-z
returns-else-limit-z c = c.if-limit-z.false ∙ range-below c.args.z (rw (to_z-of_z {w = w64} c.ranges.z) at c.if-limit-z.false)
