-- `numbers::comparisons` meets its contract: a run that counts down.
use mathlib.Core.Bool.{false}
use lib.ListN.{drop}
use Rattle.rules.specs.Problem.{comparisons}
use Rattle.problem_scan.specs.Seen.{seen}
use Rattle.problem_scan.specs.Run.{Run}
use Rattle.problem_scan.proofs.numbers.comparisons.Given as goal

abbrev pub invariant-loop-left : goal.invariant-loop-left
invariant-loop-left l =
    Run l.input (seen (comparisons l.count false l.r (drop l.from l.input) l.from)) (comparisons l.left l.equated l.r) l.at

abbrev pub decreases-loop-left : goal.decreases-loop-left
decreases-loop-left l = l.left
