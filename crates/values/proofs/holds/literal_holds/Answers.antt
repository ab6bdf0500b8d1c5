-- `holds::literal_holds` meets its contract. Assumes nothing.
use Rattle.std.proofs.Common.{◌<◌, sym, ◌∙◌, rules}
use Rattle.values.specs.Literals.{literal-is}
use Rattle.values.proofs.holds.literal_holds.Goals as goal
use Rattle.values.proofs.holds.literal_holds.Goals.{Start}

yes-fits : (s : Start) → s.args.model.booleans < 4294967296
yes-fits s = search (rules, s.well_formed)

pub returns-then-meets : goal.returns-then-meets
returns-then-meets c =
    let e = sym c.meets.ensures ∙ c.if-meets.true in
    c.if-meets.true ∙ sym (literal-is c.args.line c.args.model (yes-fits (goal.at.returns-then-meets c).Start) ∙ rw e)

pub returns-else-meets : goal.returns-else-meets
returns-else-meets c =
    let e = sym c.meets.ensures ∙ c.if-meets.false in
    c.meets-else-meets.ensures ∙ sym (literal-is c.args.line c.args.model (yes-fits (goal.at.returns-else-meets c).Start) ∙ rw e)
