-- `told::answer_told` meets its contract: by the case that it is. Assumes nothing.
use mathlib.Core.Path.{sym, ap, ◌∙◌}
use Rattle.rules_types.specs.Answers.{answer_number, answer_value}
use Rattle.jemuling.specs.Told.{answer_told}
use Rattle.jemuling.proofs.told.answer_told.Goals as goal

pub returns-in-Decided : goal.returns-in-Decided
unfolding answer_told answer_number answer_value
returns-in-Decided c = let e = sym (ap answer_told c.in-Decided.is) in rw c.verdict_number.ensures e

pub returns-in-Refused : goal.returns-in-Refused
unfolding answer_told answer_number answer_value
returns-in-Refused c = c.refused_told.ensures ∙ sym (ap answer_told c.in-Refused.is)
