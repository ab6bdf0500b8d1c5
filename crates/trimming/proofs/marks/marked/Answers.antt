-- `marks::marked` meets its contract. Assumes nothing.
use Rattle.trimming.specs.Marks.{is_marked}
use Rattle.trimming.proofs.marks.marked.Goals as goal

pub returns : goal.returns
unfolding is_marked
returns c = c.member.ensures
