-- `pair::resolve` meets its contract. Assumes nothing.
use mathlib.Core.Path.{subst}
use Rattle.lines.specs.Order.{variable_of, Ranged}
use Rattle.rounds.proofs.pair.resolve.Goals as goal

pub resolve_rational-requires : goal.resolve_rational-requires
unfolding variable_of
resolve_rational-requires c =
    let p = c.requires in
    let e = c.in-Rational.is in record {
      f_lt_rationals = subst Ranged e p.ranged;
      ready = p.ready;
      ready_2 = p.ready_2;
      upper_value = rw e at p.upper_value;
      lower_value = rw e at p.lower_value;
    }

pub resolve_boolean-requires : goal.resolve_boolean-requires
unfolding variable_of
resolve_boolean-requires c =
    let p = c.requires in record { i_lt_all_booleans = subst Ranged c.in-Boolean.is p.ranged; ready = p.ready; ready_2 = p.ready_2 }

pub returns-in-Rational : goal.returns-in-Rational
unfolding variable_of
returns-in-Rational c = rw c.in-Rational.is c.resolve_rational.ensures

pub returns-in-Boolean : goal.returns-in-Boolean
unfolding variable_of
returns-in-Boolean c = rw c.in-Boolean.is c.resolve_boolean.ensures
