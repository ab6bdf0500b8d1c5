use mathlib.Core.Path.{◌≡◌, sym, ◌∙◌}
use native.Mathlib.Omega.{arith}
use borrow.Author.Rules.{rules, sfits_of}
use lib.IntN.{pos}
use lib.ListN.{length, get_or}
use mir.Syntax.{w64}
use mir.Val.{to_z, of_z}
use mir.Facts.{to_z-of_z}
use Rattle.rules_types.specs.Limits as limit
use Rattle.rules.specs.Arithmetic.{combine}
use Rattle.theory_vectors.specs.Dot.{get_or-combine}
use Rattle.rows.specs.Row.{Filled, filled_none, filled_more, filled-all, length-rows}
use Rattle.rows.specs.Products.{amount-bits}
use Rattle.rows.proofs.combine.combine_rows.Goals as goal

pub loop-i-init : goal.loop-i-init
loop-i-init c =
    let us = c.args.us in
    let ls = c.args.ls in
    let hu : length us ≡ limit.rationals = search rules in
    let hl : length ls ≡ limit.rationals = search rules in
    (omega arith, hu, hl, filled_none _ _ (sym (length-rows _ us _ ls hu hl)))

pub combine-requires : goal.combine-requires
combine-requires c =
    let i = c.loop-i.i in
    let p = c.requires in
    simp (
      amount-bits c.args.c p.small,
      amount-bits c.args.a p.small_2,
      amount-bits (get_or c.args.us i (pos 0)) (p.amounts.small i),
      amount-bits (get_or c.args.ls i (pos 0)) (p.amounts_2.small i),
    )
    (record { small = p.small; small_2 = p.amounts.small i; small_3 = p.small_2; small_4 = p.amounts_2.small i })

pub loop-i-preserved : goal.loop-i-preserved
loop-i-preserved c =
    let l = c.loop-i in
    let us = c.args.us in
    let ls = c.args.ls in
    let k = to_z w64 (of_z w64 c.args.c) in
    let m = to_z w64 (of_z w64 c.args.a) in
    let e : c.combine.result ≡ get_or (combine k us m ls) l.i (pos 0) = (rw (
      amount-bits (get_or us l.i (pos 0))
          (c.requires.amounts.small l.i),
      amount-bits (get_or ls l.i (pos 0)) (c.requires.amounts_2.small l.i),
    ) at c.combine.ensures)
    ∙ sym (get_or-combine k us m ls l.i) in (
      omega arith,
      l.invariant.1,
      l.invariant.2,
      filled_more _ l.invariant.3 (omega (arith, length-rows k us m ls l.invariant.1 l.invariant.2))
          (to_z-of_z {w = w64} (sfits_of c.combine.type_inv) ∙ e),
    )

pub returns : goal.returns
returns c =
    let l = c.loop-i in
    let f : Filled (combine c.args.c c.args.us c.args.a c.args.ls) l.i l.out =
    rw (to_z-of_z c.ranges.c, to_z-of_z c.ranges.a) at l.invariant.3 in
    filled-all f (omega (arith, length-rows c.args.c c.args.us c.args.a c.args.ls l.invariant.1 l.invariant.2))
