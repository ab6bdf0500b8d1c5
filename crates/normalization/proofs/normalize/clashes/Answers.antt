-- `normalize::clashes` meets its contract. Assumes nothing.
use Rattle.lines.specs.Line.{meaning}
use Rattle.normalization.proofs.normalize.clashes.Goals as goal

pub returns : goal.returns
unfolding meaning
returns c = c.meets.ensures
