-- `Order::rational_round` meets its contract. Assumes nothing.
use mathlib.Core.Path.{◌≡◌}
use lib.ListN.{length}
use Rattle.rules_types.specs.Limits as limit
use Rattle.lines.specs.Order.{at-rational}
use borrow.Author.Rules.{rules}
use Rattle.lines.proofs.order.Order.rational_round.Goals as goal

pub returns : goal.returns
returns c =
    let o = c.args.self in
    let n : length o.rationals ≡ limit.rationals = search (rules, c.well_formed) in record {
      value = (λ k. record { order = o; number = c.args.t; rational = c.rational.ensures.value k });
      scheduled_rational = record {
        ranged = c.rational.ensures.upper_bound;
        ordered = c.requires.ordered;
        at = rw c.rational.ensures.value (at-rational o n c.args.t c.requires.t_lt_rationals);
      };
    }
