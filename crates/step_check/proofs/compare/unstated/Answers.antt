-- `compare::unstated` meets its contract. Assumes nothing.
use mathlib.Core.Path.{refl}
use Rattle.step_check.specs.Stated.{line_found, empty-ready}
use Rattle.step_check.proofs.compare.unstated.Goals as goal

pub returns : goal.returns
unfolding line_found
returns c = record { line = refl; ready = empty-ready }
