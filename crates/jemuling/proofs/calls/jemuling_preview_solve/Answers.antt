-- `calls::jemuling_preview_solve` meets its contract. Assumes nothing.
use native.Mathlib.Omega.{arith}
use Rattle.jemuling.proofs.calls.jemuling_preview_solve.Goals as goal

pub solve_on-requires : goal.solve_on-requires
solve_on-requires c = rw c.preview.ensures (omega arith)

pub returns : goal.returns
returns c = rw c.preview.ensures at c.solve_on.ensures
