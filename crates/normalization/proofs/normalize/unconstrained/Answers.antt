-- `normalize::unconstrained` meets its contract. Assumes nothing.
use mathlib.Core.Path.{refl}
use native.Mathlib.Omega.{arith}
use Rattle.lines.specs.Line.{constraint_of, meaning}
use Rattle.normalization.proofs.normalize.unconstrained.Goals as goal

pub returns : goal.returns
unfolding meaning constraint_of
returns c = record { result_value = refl; shaped = record { related = omega arith; coefficients = λ z. refl; bound = λ z. refl } }
