-- `calls_in::jemuling_check_book_in` meets its contract. Assumes nothing.
use native.Mathlib.Omega.{arith}
use Rattle.jemuling.proofs.calls_in.jemuling_check_book_in.Goals as goal

pub check_book_in-requires : goal.check_book_in-requires
check_book_in-requires c = rw c.standard.ensures (omega arith)

pub returns : goal.returns
returns c = rw c.standard.ensures at c.check_book_in.ensures
