-- `numbers::amounts` meets its contract: a run that counts down.
use lib.ListN.{drop}
use Rattle.rules_types.specs.declared.answers.Refusal.TheVariants as refusal
use Rattle.rules.specs.Problem.{repeat, amount}
use Rattle.problem_scan.specs.Seen.{seen}
use Rattle.problem_scan.specs.Run.{Run}
use Rattle.problem_scan.proofs.numbers.amounts.Given as goal

abbrev pub invariant-loop-left : goal.invariant-loop-left
invariant-loop-left l =
    Run l.input (seen (repeat l.count (amount refusal.Amount) (drop l.from l.input) l.from)) (repeat l.left (amount refusal.Amount)) l.at

abbrev pub decreases-loop-left : goal.decreases-loop-left
decreases-loop-left l = l.left
