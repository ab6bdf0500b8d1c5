-- `readings::has_equality` meets its contract: whether an = is left stays the answer.
use Rattle.problem_clauses.specs.Readings.{Seeking}
use Rattle.problem_clauses.proofs.readings.has_equality.Given as goal

abbrev pub invariant-loop-left : goal.invariant-loop-left
invariant-loop-left l = Seeking l.input l.r l.from l.count l.at l.left

abbrev pub decreases-loop-left : goal.decreases-loop-left
decreases-loop-left l = l.left
