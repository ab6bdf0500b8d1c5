-- `marks::mark` meets its contract: its bit is put into its word. Assumes nothing.
use native.Mathlib.Omega.{arith}
use Rattle.trimming.specs.Marks.{marks-set}
use Rattle.trimming.proofs.marks.mark.Goals as goal

pub returns : goal.returns
returns c =
    marks-set c.args.marks.now c.args.i c.with.result (omega (arith, c.requires.marks_len, c.requires.i_lt_steps)) c.with.ensures
