-- `side::stands` meets its contract. Assumes nothing.
use mathlib.Core.Path.{sym, ◌∙◌}
use Rattle.rounds.specs.Sides.{chosen}
use Rattle.rounds.proofs.side.stands.Goals as goal

pub returns-then-not-has_side : goal.returns-then-not-has_side
unfolding chosen
returns-then-not-has_side c = sym (rw (sym c.has_side.ensures ∙ c.if-not-has_side.true))

pub round-requires : goal.round-requires
round-requires c = record { shaped = rw c.line_at-line.ensures c.requires.shaped; ordered = c.requires.scheduled.ordered }

pub returns : goal.returns
unfolding chosen
returns c =
    rw (sym c.has_side.ensures ∙ c.if-not-has_side.false, c.round.ensures, c.line_at-line.ensures)
