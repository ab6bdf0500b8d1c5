use mathlib.Core.Path.{refl, sym, ◌∙◌}
use native.Mathlib.Omega.{arith}
use borrow.Author.Rules.{rules}
use borrow.Author.Tests.{eq-eqb, ne_eqb}
use lib.Dec.{eqb}
use lib.ListN.{get_or}
use Rattle.theory_lists.specs.Scan.{same_next, same_end}
use Rattle.step_check.proofs.compare.same_bytes.Goals as goal

pub loop-i-init : goal.loop-i-init
loop-i-init c = (omega arith, search rules, search rules, refl)

pub returns-then-a-i : goal.returns-then-a-i
returns-then-a-i c =
    let l = c.loop-i in
    let e = ne_eqb (get_or c.args.a l.i 0) (get_or c.args.b l.i 0) c.if-a-i.true in
    sym (l.invariant.3 ∙ same_next 0 eqb c.args.a c.args.b l.i (omega arith) (omega arith) ∙ rw e)

pub loop-i-preserved : goal.loop-i-preserved
loop-i-preserved c =
    let l = c.loop-i in
    let e = eq-eqb (get_or c.args.a l.i 0) (get_or c.args.b l.i 0) c.if-a-i.false in
    (omega arith, l.invariant.1, l.invariant.2, l.invariant.3 ∙ same_next 0 eqb c.args.a c.args.b l.i (omega arith) (omega arith) ∙ rw e)

pub returns : goal.returns
returns c =
    let l = c.loop-i in
    sym (l.invariant.3 ∙ same_end eqb c.args.a c.args.b l.i (omega arith) (omega arith))
