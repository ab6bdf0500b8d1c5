-- `rational::rational_value` meets its contract. Assumes nothing.
use Rattle.std.proofs.Common.{sym, ◌∙◌}
use Rattle.fractions.specs.Meaning.{meaning, bound_meaning}
use Rattle.steps.specs.Lines.{lines_in}
use Rattle.models.specs.Model.{assignment}
use Rattle.values.specs.Chosen.{chosen-beyond, value-beyond, chosen-value}
use Rattle.values.proofs.rational.rational_value.Goals as goal

pub returns-in_err-bounds : goal.returns-in_err-bounds
returns-in_err-bounds c =
    rw c.from_residual.ensures (chosen-beyond (assignment c.args.model) c.args.current (lines_in c.args.proof.now c.args.n)
    c.in_err-bounds.ensures)

pub returns-then-beyond : goal.returns-then-beyond
returns-then-beyond c =
    let b = c.in_ok-bounds.bounds in
    value-beyond (assignment c.args.model) c.args.current (lines_in c.args.proof.now c.args.n) (bound_meaning b.lower)
    (bound_meaning b.upper) (meaning c.value-x.result) c.in_ok-bounds.ensures c.value-x.ensures (sym c.beyond.ensures ∙ c.if-beyond.true)

pub returns : goal.returns
returns c =
    let b = c.in_ok-bounds.bounds in
    chosen-value (assignment c.args.model) c.args.current (lines_in c.args.proof.now c.args.n) (bound_meaning b.lower)
    (bound_meaning b.upper) (meaning c.value-x.result) c.in_ok-bounds.ensures c.value-x.ensures (sym c.beyond.ensures ∙ c.if-beyond.false)
