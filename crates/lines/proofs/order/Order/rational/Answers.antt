-- `Order::rational` meets its contract. Assumes nothing.
use mathlib.Core.Path.{◌≡◌, refl}
use lib.ListN.{length}
use Rattle.rules_types.specs.Limits as limit
use Rattle.lines.specs.Order.{rational-ranged}
use borrow.Author.Rules.{rules}
use Rattle.lines.proofs.order.Order.rational.Goals as goal

pub returns : goal.returns
returns c =
    let n : length c.args.self.rationals ≡ limit.rationals = search (rules, c.well_formed) in
    record { value = refl; upper_bound = rational-ranged c.args.self n c.requires.ordered c.args.t c.requires.t_lt_rationals }
