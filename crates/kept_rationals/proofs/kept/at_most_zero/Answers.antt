-- `kept::at_most_zero` meets its contract. Assumes nothing.
use Rattle.kept_rationals.specs.Clause.{bound-zero, bound-other}
use Rattle.kept_rationals.proofs.kept.at_most_zero.Goals as goal

pub returns-then-n-eq0 : goal.returns-then-n-eq0
returns-then-n-eq0 c = bound-zero _ c.if-n-eq0.true

pub returns : goal.returns
returns c = bound-other _ c.if-n-eq0.false
