-- `part::part` meets its contract: part `left` from here on is part j.
use lib.ListN.{get_elem?}
use Rattle.rules.specs.Split.{parts_of}
use Rattle.problem_scan.specs.Values.{clause_at}
use Rattle.problem_parts.specs.Part.{Looking}
use Rattle.problem_parts.proofs.part.part.Given as goal

abbrev pub invariant-loop-left : goal.invariant-loop-left
invariant-loop-left l = Looking l.input l.r (get_elem? (parts_of l.split (clause_at l.input l.r l.at)) l.j) l.parts l.left

abbrev pub decreases-loop-left : goal.decreases-loop-left
decreases-loop-left l = l.left
