-- `calls_in::jemuling_preview_solve_in` meets its contract. Assumes nothing.
use native.Mathlib.Omega.{arith}
use Rattle.jemuling.proofs.calls_in.jemuling_preview_solve_in.Goals as goal

pub solve_in-requires : goal.solve_in-requires
solve_in-requires c = rw c.preview.ensures (omega arith)

pub returns : goal.returns
returns c = rw c.preview.ensures at c.solve_in.ensures
