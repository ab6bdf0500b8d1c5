-- `Line::has_negative_boolean` meets its contract. Assumes nothing.
use Rattle.rules.specs.Lines.{negatively}
use Rattle.lines.specs.Line.{meaning}
use Rattle.lines.proofs.line.Line.has_negative_boolean.Goals as goal

pub returns : goal.returns
unfolding negatively meaning
returns c = c.member.ensures
