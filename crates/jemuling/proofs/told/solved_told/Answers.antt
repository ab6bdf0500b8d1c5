-- `told::solved_told` meets its contract: by the case that it is. Assumes nothing.
use Rattle.jemuling.specs.Told.{answer_told, solved_told}
use Rattle.jemuling.proofs.told.solved_told.Goals as goal

pub returns : goal.returns
unfolding answer_told solved_told
returns c = λ i. record {
  number = (c.answer_told-told.ensures i).number;
  value = (c.answer_told-told.ensures i).value;
  pairs = c.args.s.pairs;
}
