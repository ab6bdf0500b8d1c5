-- `side::has_side` meets its contract. Assumes nothing.
use mathlib.Core.Path.{subst, ◌∙◌}
use Rattle.lines.specs.Order.{variable_of, Ranged}
use Rattle.rounds.proofs.side.has_side.Goals as goal

pub rational_side-requires : goal.rational_side-requires
unfolding variable_of
rational_side-requires c = record {
  has_step = c.requires.has_step;
  f_lt_rationals = subst Ranged c.in-Rational.is c.requires.ranged;
  shaped = c.requires.shaped;
}

pub boolean_side-requires : goal.boolean_side-requires
unfolding variable_of
boolean_side-requires c = record { has_step = c.requires.has_step; b_lt_all_booleans = subst Ranged c.in-Boolean.is c.requires.ranged }

pub returns-in-Rational : goal.returns-in-Rational
unfolding variable_of
returns-in-Rational c = c.rational_side.ensures ∙ rw c.in-Rational.is

pub returns-in-Boolean : goal.returns-in-Boolean
unfolding variable_of
returns-in-Boolean c = c.boolean_side.ensures ∙ rw c.in-Boolean.is
