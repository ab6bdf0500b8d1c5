-- `clauses::put_clauses` meets its contract: what is left to be written gives the whole. Assumes nothing.
use Rattle.kept_rationals.specs.Kept.{inside}
use Rattle.conversion.specs.Writing.{Filling}
use Rattle.conversion.specs.Clauses.{split_clause_at, clause-places}
use Rattle.conversion.proofs.clauses.put_clauses.Given as goal

abbrev pub invariant-loop-left : goal.invariant-loop-left
invariant-loop-left l =
    Filling (split_clause_at (inside l.mask) l.input l.r)
    (clause-places l.input l.r) l.initial.out l.to l.count l.from l.out l.end l.at l.left

abbrev pub decreases-loop-left : goal.decreases-loop-left
decreases-loop-left l = l.left
