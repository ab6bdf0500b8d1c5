use mathlib.Core.Path.{sym, ap, ◌∙◌}
use Prim.Native.Nat.{ℕ}
use native.Mathlib.Omega.{arith}
use borrow.Author.Rules.{rules}
use lib.IntN.{pos}
use lib.ListN.{drop, get_or}
use mir.Syntax.{w64}
use mir.Val.{SFits}
use mir.Facts.{to_z-of_z}
use Rattle.rules.specs.Arithmetic.{gcd, gcd_all}
use Rattle.theory_vectors.specs.GcdFold.{gcd-oneˡ, gcd_all-next, gcd_all-end}
use Rattle.rows.proofs.content.content.Goals as goal
use Rattle.rows.proofs.content.content.Goals.{After-size-arg-1}

pub loop-i-init : goal.loop-i-init
unfolding gcd_all
loop-i-init c = (omega arith, search rules, ap (λ (n : ℕ). gcd n (gcd_all c.args.row)) c.size-g.ensures)

pub returns-then-g-eq1 : goal.returns-then-g-eq1
returns-then-g-eq1 c =
    let l = c.loop-i in
    let rest = gcd_all (drop l.i c.args.row) in
    sym (gcd-oneˡ rest) ∙ ap (λ (n : ℕ). gcd n rest) (sym c.if-g-eq1.true) ∙ (rw (to_z-of_z c.ranges.bound) at l.invariant.2)

pub loop-i-preserved : goal.loop-i-preserved
loop-i-preserved c =
    let l = c.loop-i in
    let z = get_or c.args.row l.i (pos 0) in
    let f : SFits w64 z = search (rules, (goal.at.loop-i-preserved c).After-size-arg-1) in (
      omega arith,
      l.invariant.1,
      rw (c.gcd-g.ensures, c.size.ensures, to_z-of_z f) (gcd_all-next l.g c.args.row l.i (omega arith) ∙ l.invariant.2),
    )

pub returns : goal.returns
returns c =
    let l = c.loop-i in
    sym (gcd_all-end l.g c.args.row l.i (omega arith)) ∙ (rw (to_z-of_z c.ranges.bound) at l.invariant.2)
