-- `Line::has_negative_rational` meets its contract. Assumes nothing.
use Rattle.rules.specs.Arithmetic.{is_negative}
use Rattle.rules.specs.Lines.{negatively}
use Rattle.lines.specs.Forms.{coefficient-test}
use borrow.Author.Rules.{rules}
use Rattle.lines.proofs.line.Line.has_negative_rational.Goals as goal
use Rattle.lines.proofs.line.Line.has_negative_rational.Goals.{After-is_negative-arg-1}

pub returns : goal.returns
unfolding negatively
returns c = coefficient-test is_negative c.args.self c.args.f c.requires.shaped
    (search (rules, (goal.at.returns c).After-is_negative-arg-1)) c.is_negative.ensures
