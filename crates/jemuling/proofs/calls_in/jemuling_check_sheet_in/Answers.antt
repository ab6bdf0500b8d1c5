-- `calls_in::jemuling_check_sheet_in` meets its contract. Assumes nothing.
use Rattle.jemuling.proofs.calls_in.jemuling_check_sheet_in.Goals as goal

pub returns : goal.returns
returns c = rw c.standard.ensures at c.check_sheet_in.ensures
