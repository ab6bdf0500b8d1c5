use Rattle.std.proofs.Common.{◌≡◌, sym, ap, ◌∙◌, ◌||◌, ℕ, ◌+◌, arith, drop}
use Rattle.rules.specs.Lists.{any}
use Rattle.lines.specs.declared.line.Line.{Line}
use Rattle.lines.specs.Order.{variables_of}
use Rattle.lines.specs.Line.{meaning}
use Rattle.steps.specs.Lines.{lines_in}
use Rattle.models.specs.Model.{assignment}
use Rattle.values.specs.Boolean.{forces, value-is}
use Rattle.values.specs.Round.{lines_next, lines_end}
use Rattle.values.proofs.boolean.boolean_value.Goals as goal
use Rattle.values.proofs.boolean.boolean_value.Goals.{After-forces}

-- the line that was read decides, or those behind it
decided : (c : After-forces) → let l = c.loop-j in let test = forces (variables_of c.args.order) (assignment c.args.model) c.args.i in
    any test (lines_in c.args.proof.now c.args.n) ≡ c.forces.result
    || any test (drop (l.j + 1) (lines_in c.args.proof.now c.args.n))
unfolding any
decided c =
    let l = c.loop-j in
    let test = forces (variables_of c.args.order) (assignment c.args.model) c.args.i in
    let e = c.forces.ensures ∙ ap (λ (x : Line). test (meaning x)) c.line_at.ensures in
    l.invariant ∙ ap (any test) (lines_next c.args.proof.now c.args.n l.j c.loop-j-test.true) ∙ rw e

pub returns-then-forces : goal.returns-then-forces
returns-then-forces c =
    sym
    (sym (value-is (variables_of c.args.order) (assignment c.args.model) c.args.i (lines_in c.args.proof.now c.args.n))
    ∙ decided (goal.at.returns-then-forces c).After-forces ∙ rw c.if-forces.true)

pub loop-j-preserved : goal.loop-j-preserved
loop-j-preserved c = decided (goal.at.loop-j-preserved c).After-forces ∙ rw c.if-forces.false

pub returns : goal.returns
unfolding any
returns c =
    let l = c.loop-j in
    let test = forces (variables_of c.args.order) (assignment c.args.model) c.args.i in
    let ls = lines_in c.args.proof.now c.args.n in
    let z : l.j ≡ c.args.n = omega arith in
    sym (sym (value-is (variables_of c.args.order) (assignment c.args.model) c.args.i ls) ∙ l.invariant
    ∙ ap (λ (k : ℕ). any test (drop k ls)) z
    ∙ ap (any test) (lines_end c.args.proof.now c.args.n))
