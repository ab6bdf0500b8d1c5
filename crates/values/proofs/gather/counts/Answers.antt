-- `gather::counts` meets its contract. Assumes nothing.
use Rattle.std.proofs.Common.{◌≡◌, ◌∙◌, sym, ap, not, true, false, eq-eqb, ne_eqb}
use Rattle.lines.specs.Line.{meaning}
use Rattle.models.specs.Model.{assignment}
use Rattle.values.specs.Round.{belongs}
use Rattle.values.specs.Gather.{counts-own, counts-other}
use Rattle.values.proofs.gather.counts.Goals as goal

pub returns-then-round-current : goal.returns-then-round-current
returns-then-round-current c =
    let e : belongs c.args.current (meaning c.args.line) ≡ true =
    rw (← c.round.ensures) (eq-eqb c.round.result c.args.current.number c.if-round-current.true) in
    ap not c.literal_holds.ensures ∙ sym (counts-own (assignment c.args.model) c.args.current (meaning c.args.line) e)

pub returns-else-round-current : goal.returns-else-round-current
returns-else-round-current c =
    let n = ne_eqb c.round.result c.args.current.number c.if-round-current.false in
    let e : belongs c.args.current (meaning c.args.line) ≡ false = rw (← c.round.ensures) n in
    n ∙ sym (counts-other (assignment c.args.model) c.args.current (meaning c.args.line) e)
