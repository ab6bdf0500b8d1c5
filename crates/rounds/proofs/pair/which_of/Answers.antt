-- `pair::which_of` meets its contract. Assumes nothing.
use mathlib.Core.Path.{sym, subst}
use native.Mathlib.Omega.{arith}
use Rattle.lines.specs.Order.{variable_of, Ranged}
use Rattle.rounds.specs.Pairs.{which_of}
use Rattle.rounds.proofs.pair.which_of.Goals as goal

pub overflow_cast-result : goal.overflow_cast-result
unfolding variable_of
overflow_cast-result c = omega (arith, subst Ranged c.in-Rational.is c.requires)

pub overflow_cast-result-in-Boolean : goal.overflow_cast-result-in-Boolean
unfolding variable_of
overflow_cast-result-in-Boolean c = omega (arith, subst Ranged c.in-Boolean.is c.requires)

pub returns-in-Rational : goal.returns-in-Rational
unfolding which_of
returns-in-Rational c = sym (rw c.in-Rational.is)

pub returns-in-Boolean : goal.returns-in-Boolean
unfolding which_of
returns-in-Boolean c = sym (rw c.in-Boolean.is)
