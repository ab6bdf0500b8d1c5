-- `gcd::gcd_odd` meets its contract. Invariant: x is odd, y fits, and their gcd is that of a and b. Measure: their sum. Assumes nothing.
use mathlib.Core.Path.{◌≡◌, refl, sym, ap, ◌∙◌}
use Prim.Native.Nat.{◌+◌, ◌-◌, ◌%◌, ◌^◌, ◌<◌}
use native.Mathlib.Omega.{arith}
use borrow.Author.Rules.{rules}
use Rattle.rules.specs.Arithmetic.{gcd}
use Rattle.theory_vectors.specs.Gcd.{gcd-zeroʳ}
use Rattle.machine.specs.Odd.{pass-odd, pass-gcd, pass-less}
use Rattle.machine.proofs.gcd.gcd_odd.Given as goal

abbrev pub invariant-loop-y : goal.invariant-loop-y
invariant-loop-y l = (l.x % 2 ≡ 1) × (l.y < 2 ^ 64) × (gcd l.x l.y ≡ gcd l.a l.b)

abbrev pub decreases-loop-y : goal.decreases-loop-y
decreases-loop-y l = l.x + l.y
