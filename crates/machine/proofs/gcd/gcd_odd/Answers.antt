use mathlib.Core.Path.{◌≡◌, refl, sym, ap, ◌∙◌}
use Prim.Native.Nat.{◌+◌, ◌-◌, ◌%◌, ◌^◌, ◌<◌}
use native.Mathlib.Omega.{arith}
use borrow.Author.Rules.{rules}
use Rattle.rules.specs.Arithmetic.{gcd}
use Rattle.theory_vectors.specs.Gcd.{gcd-zeroʳ}
use Rattle.machine.specs.Odd.{pass-odd, pass-gcd, pass-less}
use Rattle.machine.proofs.gcd.gcd_odd.Goals as goal

pub loop-y-init : goal.loop-y-init
loop-y-init c = (c.requires, omega arith, refl)

-- what the three calls give, said of x and y
pub loop-y-smaller : goal.loop-y-smaller
loop-y-smaller c =
    let l = c.loop-y in
    rw (c.lesser-x.ensures, c.distance-y.ensures, c.odd_part-z.ensures)
    (pass-less l.x l.y l.invariant.0 (omega arith))

pub loop-y-preserved : goal.loop-y-preserved
loop-y-preserved c =
    let l = c.loop-y in (
      rw (c.lesser-x.ensures, c.odd_part-z.ensures) (pass-odd l.x l.y l.invariant.0 (omega arith) l.invariant.1),
      search (rules, c.distance-y.type_inv),
      rw (c.lesser-x.ensures, c.distance-y.ensures, c.odd_part-z.ensures)
          (pass-gcd l.x l.y l.invariant.0 ∙ l.invariant.2),
    )

pub returns : goal.returns
returns c =
    let l = c.loop-y in
    let e : l.y ≡ 0 = omega arith in
    sym (gcd-zeroʳ l.x) ∙ ap (gcd l.x) (sym e) ∙ l.invariant.2
