use Rattle.std.proofs.Common.{◌≡◌, sym, ◌∙◌, rules}
use Rattle.rules.specs.Arithmetic.{is_negative}
use Rattle.models.specs.Model.{value, assignment}
use Rattle.model_check.specs.Added.{one_more, added-done, added-fails}
use Rattle.model_check.proofs.failing.check_added.Goals as goal
use Rattle.model_check.proofs.failing.check_added.Goals.{After-is_negative}

-- the numerator at hand
tested : (k : After-is_negative) → k.is_negative.result ≡ is_negative (value k.args.model.numerators k.loop-f.f)
unfolding value
tested k = search rules

pub returns-then-is_negative : goal.returns-then-is_negative
unfolding assignment
returns-then-is_negative c =
    added-fails (assignment c.args.model) c.args.n c.args.count c.requires.count_le_rationals c.loop-f.f c.loop-f-test.true
    c.loop-f.invariant (sym (tested (goal.at.returns-then-is_negative c).After-is_negative) ∙ c.if-is_negative.true)

pub loop-f-preserved : goal.loop-f-preserved
loop-f-preserved c =
    one_more (value c.args.model.numerators) c.loop-f.f c.loop-f.invariant
    (sym (tested (goal.at.loop-f-preserved c).After-is_negative) ∙ c.if-is_negative.false)

pub returns : goal.returns
unfolding assignment
returns c =
    added-done (assignment c.args.model) c.args.n c.args.count c.requires.count_le_rationals c.loop-f.f c.loop-f.auto.f-end
    c.loop-f-test.false c.loop-f.invariant
