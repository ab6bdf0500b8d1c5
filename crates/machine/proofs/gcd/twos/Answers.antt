-- `gcd::twos` meets its contract: a count of 64 digits fits. Assumes nothing.
use mathlib.Core.Path.{refl}
use native.Mathlib.Omega.{arith}
use lib.Count.{trailing_le}
use Rattle.machine.specs.Odd.{twos}
use Rattle.machine.proofs.gcd.twos.Goals as goal

pub overflow_cast-result : goal.overflow_cast-result
overflow_cast-result c = omega (arith, trailing_le 64 c.args.n)

pub returns : goal.returns
unfolding twos
returns c = refl
