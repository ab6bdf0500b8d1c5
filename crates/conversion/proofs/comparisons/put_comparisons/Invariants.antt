-- `comparisons::put_comparisons` meets its contract: what is left to be written gives the whole. Assumes nothing.
use Rattle.kept_rationals.specs.Kept.{inside}
use Rattle.conversion.specs.Writing.{Filling}
use Rattle.conversion.specs.Comparisons.{split_comparison_at, comparison-places}
use Rattle.conversion.proofs.comparisons.put_comparisons.Given as goal

abbrev pub invariant-loop-left : goal.invariant-loop-left
invariant-loop-left l =
    Filling (split_comparison_at (inside l.mask) l.input l.r)
    (comparison-places l.r) l.initial.out l.to l.count l.from l.out l.next l.at l.left

abbrev pub decreases-loop-left : goal.decreases-loop-left
decreases-loop-left l = l.left
