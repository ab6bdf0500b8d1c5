-- `resolve::finish` meets its contract. Assumes nothing.
use mathlib.Core.Path.{◌≡◌, sym, ◌∙◌}
use mathlib.Core.Option.{some}
use borrow.Author.Rules.{rules}
use Rattle.rules.specs.Normalize.{normal_line}
use Rattle.lines.specs.Line.{meaning}
use Rattle.normalization.specs.Normal.{normalized-dropped, normalized-left}
use Rattle.resolvents.specs.Resolved.{gives-dropped, gives-overflow, gives_made}
use Rattle.resolvents.proofs.resolve.finish.Goals as goal
use Rattle.resolvents.proofs.resolve.finish.Goals.{Else-n}

pub returns-then-n : goal.returns-then-n
returns-then-n c =
    let n = c.normalize-n.result in
    gives-dropped n.line c.normalize-n.ensures.shaped_2 (sym (normalized-dropped n c.if-n.true) ∙ c.normalize-n.ensures.result_value)

-- the line that is left
left : (c : Else-n)
    → some (meaning c.normalize-n.result.line) ≡ normal_line (meaning c.args.line)
left c = sym (normalized-left c.normalize-n.result c.if-n.false) ∙ c.normalize-n.ensures.result_value

pub returns-then-overflows : goal.returns-then-overflows
returns-then-overflows c =
    gives-overflow c.normalize-n.result.line c.normalize-n.ensures.shaped_2 (left (goal.at.returns-then-overflows c).Else-n)
    (sym c.overflows.ensures ∙ c.if-overflows.true)

pub returns : goal.returns
returns c =
    gives_made c.normalize-n.result.line c.normalize-n.ensures.shaped_2 (left (goal.at.returns c).Else-n)
    (sym c.overflows.ensures ∙ c.if-overflows.false)
