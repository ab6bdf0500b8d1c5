-- `told::refused_told` meets its contract. Assumes nothing.
use Rattle.jemuling.proofs.told.refused_told.Goals as goal

pub returns : goal.returns
returns c = rw c.number.ensures
