-- `backwards::walk` meets its contract. Invariant: the model is the walk's from round t on. Assumes nothing.
use Rattle.lines.specs.Order.{variables_of}
use Rattle.steps.specs.Lines.{lines_in}
use Rattle.walk.specs.Backwards.{Walking}
use Rattle.walk.proofs.backwards.walk.Given as goal

abbrev pub invariant-loop-t : goal.invariant-loop-t
invariant-loop-t l = Walking (variables_of l.order) (lines_in l.proof l.n) l.t l.model
