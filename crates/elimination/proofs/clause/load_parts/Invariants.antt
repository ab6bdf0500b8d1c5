-- `clause::load_parts` meets its contract. Invariant: the parts that are left come to what all parts come to. Assumes nothing.
use lib.ListN.{length}
use Rattle.problem_parts.specs.Parts.{parts_from}
use Rattle.elimination.specs.LoadedParts.{AtPart}
use Rattle.elimination.proofs.clause.load_parts.Given as goal

abbrev pub invariant-loop-parts : goal.invariant-loop-parts
invariant-loop-parts l = AtPart l.limits l.input l.r l.clause l.number l.initial.parts l.initial.proof l.initial.p l.proof l.p l.parts l.j

abbrev pub decreases-loop-parts : goal.decreases-loop-parts
decreases-loop-parts l = length (parts_from l.input l.r l.parts)
