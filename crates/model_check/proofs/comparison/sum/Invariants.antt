-- `comparison::sum` meets its contract: the sum so far and that of what is left come to the same.
use Rattle.model_check.specs.Sum.{Summing}
use Rattle.model_check.proofs.comparison.sum.Given as goal

abbrev pub invariant-loop-i : goal.invariant-loop-i
invariant-loop-i l = Summing l.input l.numerators l.from l.count l.i l.total
