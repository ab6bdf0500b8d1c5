-- `masks::member` meets its contract. Assumes nothing.
use mathlib.Core.Path.{sym}
use Rattle.rules_types.specs.Limits as limit
use Rattle.masks.specs.Mask.{has-bits}
use Rattle.masks.proofs.member.Goals as goal

pub returns : goal.returns
returns c = sym (has-bits limit.all_booleans c.args.mask c.args.i c.requires)
