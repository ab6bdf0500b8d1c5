-- `told::checked_told` meets its contract: by the case that it is. Assumes nothing.
use mathlib.Core.Path.{sym, ap, ◌∙◌}
use Rattle.rules_types.specs.Answers.{checked_number, checked_value}
use Rattle.jemuling.specs.Told.{checked_told}
use Rattle.jemuling.proofs.told.checked_told.Goals as goal

pub returns-in-Accepted : goal.returns-in-Accepted
unfolding checked_told checked_number checked_value
returns-in-Accepted c = sym (ap checked_told c.in-Accepted.is)

pub returns-in-Fails : goal.returns-in-Fails
unfolding checked_told checked_number checked_value
returns-in-Fails c = sym (ap checked_told c.in-Fails.is)

pub returns-in-Refused : goal.returns-in-Refused
unfolding checked_told checked_number checked_value
returns-in-Refused c = c.refused_told.ensures ∙ sym (ap checked_told c.in-Refused.is)
