-- `side::boolean_side` meets its contract. Assumes nothing.
use mathlib.Core.Path.{◌≡◌, ◌∙◌}
use Rattle.rules.specs.Lines.{positively, negatively}
use Rattle.lines.specs.Line.{meaning}
use Rattle.steps.specs.Lines.{line_at}
use Rattle.steps.specs.Fields.{positive-bytes, negative-bytes}
use Rattle.rounds.specs.Sides.{on_side}
use Rattle.rounds.proofs.side.boolean_side.Goals as goal

pub returns-then-upper : goal.returns-then-upper
unfolding on_side positively meaning
returns-then-upper c =
    let m : c.positive_at.result ≡ (line_at c.args.proof.now c.args.i).positive = c.positive_at.ensures
    ∙ positive-bytes c.args.proof.now c.args.i c.requires.has_step in
    c.member.ensures ∙ rw (m, c.if-upper.true)

pub returns : goal.returns
unfolding on_side negatively meaning
returns c =
    let m : c.negative_at.result ≡ (line_at c.args.proof.now c.args.i).negative = c.negative_at.ensures
    ∙ negative-bytes c.args.proof.now c.args.i c.requires.has_step in
    c.member-2.ensures ∙ rw (m, c.if-upper.false)
