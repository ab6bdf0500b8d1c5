-- `constraint::relation_of` meets its contract.
use mathlib.Core.Path.{sym, ap, ◌∙◌}
use mathlib.Core.Bool.{Bool, cond}
use Rattle.problem_parts.proofs.constraint.relation_of.Goals as goal

pub returns-then-is_strict : goal.returns-then-is_strict
returns-then-is_strict c = ap (λ (t : Bool). cond t 2 1) (sym c.if-is_strict.true ∙ c.is_strict.ensures)

pub returns : goal.returns
returns c = ap (λ (t : Bool). cond t 2 1) (sym c.if-is_strict.false ∙ c.is_strict.ensures)
