-- `masks::subset` meets its contract. Assumes nothing.
use mathlib.Core.Path.{sym}
use Rattle.rules_types.specs.Limits as limit
use Rattle.masks.specs.Mask.{subset-bits}
use Rattle.masks.proofs.subset.Goals as goal

pub returns : goal.returns
returns c = sym (subset-bits limit.all_booleans c.args.a c.args.b c.ranges.a.fits c.ranges.b.fits)
