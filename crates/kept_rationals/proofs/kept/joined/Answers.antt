-- `kept::joined` meets its contract. Assumes nothing.
use Rattle.kept_rationals.specs.Kept.{joined-none, joined-with}
use Rattle.kept_rationals.proofs.kept.joined.Goals as goal

pub returns-then-v-r : goal.returns-then-v-r
returns-then-v-r c = joined-with _ _ _ c.if-v-r.true c.requires _ c.with.ensures

pub returns : goal.returns
returns c = joined-none _ _ _ c.if-v-r.false
