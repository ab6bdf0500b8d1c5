-- `backwards::walk_booleans` meets its contract. Invariant: the model is the walk's from Boolean variable i's round on. Assumes nothing.
use Rattle.lines.specs.Order.{variables_of, boolean_round}
use Rattle.steps.specs.Lines.{lines_in}
use Rattle.walk.specs.Backwards.{Walking}
use Rattle.walk.proofs.backwards.walk_booleans.Given as goal

abbrev pub invariant-loop-i : goal.invariant-loop-i
invariant-loop-i l = Walking (variables_of l.order) (lines_in l.proof l.n) (boolean_round l.i) l.model
