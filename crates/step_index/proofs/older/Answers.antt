-- `older` meets its contract. Assumes nothing.
use native.Mathlib.Omega.{arith}
use borrow.Author.Tests.{lt-ltb, le-ltb}
use Rattle.step_index.specs.Index.{link_at}
use Rattle.step_index.proofs.older.Goals as goal

pub returns-then-i-lt512 : goal.returns-then-i-lt512
unfolding link_at
returns-then-i-lt512 c = let i = c.args.i in rw (lt-ltb i 512 (omega arith)) c.from.ensures

pub returns-else-i-lt512 : goal.returns-else-i-lt512
unfolding link_at
returns-else-i-lt512 c = let i = c.args.i in rw (le-ltb i 512 (omega arith)) c.from-else-i-lt512.ensures
