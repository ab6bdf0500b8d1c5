-- `places::halves` meets its contract. Assumes nothing.
use mathlib.Core.Path.{sym, ◌∙◌}
use Rattle.kept_rationals.specs.Kept.{inside}
use Rattle.kept_rationals.proofs.places.halves.Goals as goal

pub returns-then-member : goal.returns-then-member
unfolding inside
returns-then-member c = rw (sym c.member.ensures ∙ c.if-member.true)

pub returns : goal.returns
unfolding inside
returns c = rw (sym c.member.ensures ∙ c.if-member.false)
