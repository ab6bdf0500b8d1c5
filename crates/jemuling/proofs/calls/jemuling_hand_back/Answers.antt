-- `calls::jemuling_hand_back` meets its contract. Assumes nothing.
use Rattle.jemuling.proofs.calls.jemuling_hand_back.Goals as goal

pub returns : goal.returns
returns c = rw c.standard.ensures at c.hand_back_on.ensures
