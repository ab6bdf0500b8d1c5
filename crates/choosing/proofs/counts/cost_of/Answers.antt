-- `counts::cost_of` meets its contract: each step fits. Assumes nothing.
use mathlib.Core.Path.{◌≡◌}
use Prim.Native.Nat.{ℕ, ◌≤◌}
use native.Mathlib.Omega.{arith}
use lib.IntN.{pos}
use mir.Syntax.{w64}
use mir.Val.{to_z}
use mir.Facts.{to_z-of_z, to_z_pos}
use Rattle.rules_types.specs.Limits as limit
use Rattle.rules.specs.Elimination.{cost_of}
use Rattle.choosing.specs.Counts.{product-fits, less-fits, cost-fits}
use Rattle.choosing.proofs.counts.cost_of.Goals as goal

-- a count as an i64
widened : (n : ℕ) → n ≤ limit.most_steps → to_z w64 n ≡ pos n
widened n h = to_z_pos w64 (omega (arith, h))

pub returns : goal.returns
unfolding cost_of
returns c =
    let u = c.args.u in
    let l = c.args.l in
    let few = c.requires.u_le_most_steps in
    let few' = c.requires.l_le_most_steps in
    rw (
      c.from-a.ensures,
      c.from-b.ensures,
      widened u few,
      widened l few',
      to_z-of_z (product-fits u l few few'),
      to_z-of_z (less-fits u l few few'),
    ) (to_z-of_z (cost-fits u l few few'))
