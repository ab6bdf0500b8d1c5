-- `gcd::gcd` meets its contract: the factors 2 that both numbers have, times what their odd parts share. Assumes nothing.
use mathlib.Core.Path.{sym}
use native.Mathlib.Omega.{arith}
use borrow.Author.Rules.{rules}
use Rattle.theory_vectors.specs.Gcd.{gcd-zeroˡ, gcd-zeroʳ}
use Rattle.machine.specs.Odd.{odd_part-odd, twos-<, gcd-shifted}
use Rattle.machine.proofs.gcd.gcd.Goals as goal

pub returns-then-a-eq0 : goal.returns-then-a-eq0
returns-then-a-eq0 c = rw c.if-a-eq0.true (sym (gcd-zeroˡ c.args.b))

pub returns-then-b-eq0 : goal.returns-then-b-eq0
returns-then-b-eq0 c = rw c.if-b-eq0.true (sym (gcd-zeroʳ c.args.a))

pub gcd_odd-odd-requires : goal.gcd_odd-odd-requires
gcd_odd-odd-requires c = rw c.odd_part.ensures (odd_part-odd c.args.a (omega arith) (omega arith))

pub overflow_shl-result : goal.overflow_shl-result
overflow_shl-result c =
    omega (arith, c.lesser.ensures, c.twos.ensures, twos-< c.args.a (omega arith) (omega arith))

pub returns : goal.returns
returns c =
    rw (c.lesser.ensures, c.twos.ensures, c.twos-2.ensures, c.gcd_odd-odd.ensures, c.odd_part.ensures)
    (gcd-shifted c.args.a c.args.b (omega arith) (omega arith) (omega arith) (omega arith))
