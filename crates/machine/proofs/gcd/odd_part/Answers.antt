-- `gcd::odd_part` meets its contract. Assumes nothing.
use native.Mathlib.Omega.{arith}
use borrow.Author.Rules.{rules}
use Rattle.machine.specs.Odd.{odd_part, twos-<}
use Rattle.machine.proofs.gcd.odd_part.Goals as goal

pub overflow_shr-result : goal.overflow_shr-result
overflow_shr-result c = omega (arith, twos-< c.args.n (omega arith) (omega arith))

pub returns : goal.returns
unfolding odd_part
returns c = rw c.twos.ensures
