-- `row::turned` meets its contract. Assumes nothing.
use Rattle.conversion.specs.Row.{turned_zero, turned-other}
use Rattle.conversion.proofs.row.turned.Goals as goal

pub returns-then-n-eq0 : goal.returns-then-n-eq0
returns-then-n-eq0 c = turned_zero _ c.if-n-eq0.true

pub returns : goal.returns
returns c = turned-other _ c.if-n-eq0.false c.requires
