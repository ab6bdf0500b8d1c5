-- `calls::jemuling_check_sheet` meets its contract. Assumes nothing.
use Rattle.jemuling.proofs.calls.jemuling_check_sheet.Goals as goal

pub returns : goal.returns
returns c = rw c.standard.ensures at c.check_sheet_on.ensures
