-- `told::verdict_number` meets its contract: by the case that it is. Assumes nothing.
use mathlib.Core.Path.{sym, ap}
use Rattle.rules_types.specs.Answers.{verdict_number}
use Rattle.jemuling.proofs.told.verdict_number.Goals as goal

pub returns-in-Satisfiable : goal.returns-in-Satisfiable
unfolding verdict_number
returns-in-Satisfiable c = sym (ap verdict_number c.in-Satisfiable.is)

pub returns-in-Unsatisfiable : goal.returns-in-Unsatisfiable
unfolding verdict_number
returns-in-Unsatisfiable c = sym (ap verdict_number c.in-Unsatisfiable.is)

pub returns-in-Unwritten : goal.returns-in-Unwritten
unfolding verdict_number
returns-in-Unwritten c = sym (ap verdict_number c.in-Unwritten.is)
