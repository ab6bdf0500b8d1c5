-- `derive::made` meets its contract. Assumes nothing.
use Rattle.step_check.specs.Made.{holds_same, holds-made, left-dropped, left-overflow}
use Rattle.step_check.proofs.derive.made.Goals as goal

pub returns-in-Dropped : goal.returns-in-Dropped
returns-in-Dropped c =
    holds_same (left-dropped c.args.r c.in-Dropped.is) c.unstated.ensures

pub returns-in-Overflows : goal.returns-in-Overflows
returns-in-Overflows c =
    holds_same (left-overflow c.args.r c.requires c.in-Overflows.is) c.unstated-in-Overflows.ensures

pub returns-in-Made : goal.returns-in-Made
returns-in-Made c =
    holds-made c.args.r c.requires c.in-Made.is
