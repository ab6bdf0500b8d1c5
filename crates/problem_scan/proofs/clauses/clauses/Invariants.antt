-- `clauses::clauses` meets its contract: a run that counts down.
use lib.ListN.{drop}
use Rattle.rules.specs.Problem.{repeat}
use Rattle.problem_scan.specs.Clauses.{clause_of, clauses_of}
use Rattle.problem_scan.specs.Seen.{seen}
use Rattle.problem_scan.specs.Run.{Run}
use Rattle.problem_scan.proofs.clauses.clauses.Given as goal

abbrev pub invariant-loop-left : goal.invariant-loop-left
invariant-loop-left l = Run l.input (seen (clauses_of l.sizes (drop l.from l.input) l.from)) (repeat l.left (clause_of l.sizes)) l.at

abbrev pub decreases-loop-left : goal.decreases-loop-left
decreases-loop-left l = l.left
