-- `masks::without` meets its contract: all digits but its own are kept. Assumes nothing.
use mathlib.Core.Path.{sym}
use native.Mathlib.Omega.{arith}
use Rattle.rules_types.specs.Limits as limit
use Rattle.masks.specs.Mask.{shift_is, power-<, excluding-bits}
use Rattle.masks.proofs.without.Goals as goal

pub returns : goal.returns
returns c =
    let i = c.args.i in
    rw (shift_is i c.requires) (sym (excluding-bits limit.all_booleans c.args.mask i _ (omega (arith, power-< i c.requires))))
