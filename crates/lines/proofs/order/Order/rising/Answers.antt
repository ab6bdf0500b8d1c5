-- `Order::rising` meets its contract. Assumes nothing.
use mathlib.Core.Path.{refl}
use Rattle.rules.specs.Lists.{tabulate}
use Rattle.theory_saturation.specs.Taken.{rising-ordered}
use Rattle.lines.specs.Order.{variables_of}
use Rattle.lines.proofs.order.Order.rising.Goals as goal

pub returns : goal.returns
unfolding tabulate variables_of
returns c = record { rationals_value = refl; ordered = rising-ordered }
