-- `told::trimmed_told` meets its contract: by the case that it is. Assumes nothing.
use mathlib.Core.Path.{sym, ap, ◌∙◌}
use Rattle.rules_types.specs.Answers.{checked_number, checked_value, trimmed_number, trimmed_value}
use Rattle.jemuling.specs.Told.{checked_told, trimmed_told}
use Rattle.jemuling.proofs.told.trimmed_told.Goals as goal

pub returns-in-Steps : goal.returns-in-Steps
unfolding trimmed_told trimmed_number trimmed_value
returns-in-Steps c = sym (ap trimmed_told c.in-Steps.is)

pub returns-in-Fails : goal.returns-in-Fails
unfolding checked_told checked_number checked_value trimmed_told trimmed_number trimmed_value
returns-in-Fails c = c.checked_told.ensures ∙ sym (ap trimmed_told c.in-Fails.is)

pub returns-in-Refused : goal.returns-in-Refused
unfolding trimmed_told trimmed_number trimmed_value
returns-in-Refused c = c.refused_told.ensures ∙ sym (ap trimmed_told c.in-Refused.is)
