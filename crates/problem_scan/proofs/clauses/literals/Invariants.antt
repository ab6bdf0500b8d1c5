-- `clauses::literals` meets its contract: a run that counts down.
use lib.ListN.{drop}
use Rattle.rules.specs.Problem.{repeat, literal}
use Rattle.problem_scan.specs.Seen.{seen}
use Rattle.problem_scan.specs.Run.{Run}
use Rattle.problem_scan.proofs.clauses.literals.Given as goal

abbrev pub invariant-loop-left : goal.invariant-loop-left
invariant-loop-left l = Run l.input (seen (repeat l.count (literal l.b) (drop l.from l.input) l.from)) (repeat l.left (literal l.b)) l.at

abbrev pub decreases-loop-left : goal.decreases-loop-left
decreases-loop-left l = l.left
