-- `Line::has_positive_boolean` meets its contract. Assumes nothing.
use Rattle.rules.specs.Lines.{positively}
use Rattle.lines.specs.Line.{meaning}
use Rattle.lines.proofs.line.Line.has_positive_boolean.Goals as goal

pub returns : goal.returns
unfolding positively meaning
returns c = c.member.ensures
