-- `line::Line::bare` meets its contract. Assumes nothing.
use mathlib.Core.Path.{refl}
use native.Mathlib.Omega.{arith}
use Rattle.lines.specs.Line.{meaning, constraint_of}
use Rattle.lines.specs.Ready.{small-ready}
use Rattle.lines.proofs.line.Line.bare.Goals as goal

pub returns : goal.returns
unfolding meaning constraint_of
returns c = record {
  result_value = refl;
  ready = small-ready _ (record {
    related = omega arith;
    coefficients = λ e. refl;
    bound = λ e. refl;
  }) tt;
}
