-- `calls::jemuling_preview_check_book` meets its contract. Assumes nothing.
use native.Mathlib.Omega.{arith}
use Rattle.jemuling.proofs.calls.jemuling_preview_check_book.Goals as goal

pub check_book_on-requires : goal.check_book_on-requires
check_book_on-requires c = rw c.preview.ensures (omega arith)

pub returns : goal.returns
returns c = rw c.preview.ensures at c.check_book_on.ensures
