-- `told::converted_told` meets its contract: by the case that it is. Assumes nothing.
use mathlib.Core.Path.{sym, ap, ◌∙◌}
use Rattle.rules_types.specs.Answers.{converted_number, converted_value}
use Rattle.jemuling.specs.Told.{converted_told}
use Rattle.jemuling.proofs.told.converted_told.Goals as goal

pub returns-in-Length : goal.returns-in-Length
unfolding converted_told converted_number converted_value
returns-in-Length c = sym (ap converted_told c.in-Length.is)

pub returns-in-Refused : goal.returns-in-Refused
unfolding converted_told converted_number converted_value
returns-in-Refused c = c.refused_told.ensures ∙ sym (ap converted_told c.in-Refused.is)
