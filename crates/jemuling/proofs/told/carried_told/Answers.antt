-- `told::carried_told` meets its contract: by the case that it is. Assumes nothing.
use mathlib.Core.Path.{sym, ap, ◌∙◌}
use Rattle.rules_types.specs.Answers.{carried_number, carried_value}
use Rattle.jemuling.specs.Told.{carried_told}
use Rattle.jemuling.proofs.told.carried_told.Goals as goal

pub returns-in-Done : goal.returns-in-Done
unfolding carried_told carried_number carried_value
returns-in-Done c = sym (ap carried_told c.in-Done.is)

pub returns-in-Refused : goal.returns-in-Refused
unfolding carried_told carried_number carried_value
returns-in-Refused c = c.refused_told.ensures ∙ sym (ap carried_told c.in-Refused.is)
