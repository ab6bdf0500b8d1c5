-- `pair::how_of` meets its contract. Assumes nothing.
use mathlib.Core.Path.{sym}
use Rattle.rounds.specs.Pairs.{how_of}
use Rattle.rounds.proofs.pair.how_of.Goals as goal

pub returns-in-Rational : goal.returns-in-Rational
unfolding how_of
returns-in-Rational c = sym (rw c.in-Rational.is)

pub returns-in-Boolean : goal.returns-in-Boolean
unfolding how_of
returns-in-Boolean c = sym (rw c.in-Boolean.is)
