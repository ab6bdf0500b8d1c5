-- `Line::has_positive_rational` meets its contract. Assumes nothing.
use Rattle.rules.specs.Arithmetic.{is_positive}
use Rattle.rules.specs.Lines.{positively}
use Rattle.lines.specs.Forms.{coefficient-test}
use borrow.Author.Rules.{rules}
use Rattle.lines.proofs.line.Line.has_positive_rational.Goals as goal
use Rattle.lines.proofs.line.Line.has_positive_rational.Goals.{After-is_positive-arg-1}

pub returns : goal.returns
unfolding positively
returns c = coefficient-test is_positive c.args.self c.args.f c.requires.shaped
    (search (rules, (goal.at.returns c).After-is_positive-arg-1)) c.is_positive.ensures
