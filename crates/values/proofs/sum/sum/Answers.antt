use Rattle.std.proofs.Common.{◌≡◌, ◌<◌, sym, ap, ◌∙◌, suc, ℤ, pos, ◌+ℤ◌, ◌*ℤ◌, arith, rules, length, get_or}
use Rattle.std.proofs.Common.{add-one, to_z, of_z}
use Rattle.std.specs.Int.{w64}
use Rattle.rules_types.specs.Limits as limit
use Rattle.theory_integers.specs.Ring.{+-identityˡ, +-identityʳ, +_assoc}
use Rattle.theory_integers.specs.Size.{abs-+-≤}
use Rattle.rows.specs.Products.{amount-bits, product-≤}
use Rattle.models.specs.Model.{value}
use Rattle.values.specs.Terms.{terms_from, terms-none, terms-all, terms-more}
use Rattle.values.proofs.sum.sum.Goals as goal

pub loop-i-init : goal.loop-i-init
loop-i-init c =
    (search rules, omega arith, +-identityˡ (terms_from c.args.row c.args.numerators 0) ∙ terms-all c.args.row c.args.numerators)

pub loop-i-preserved : goal.loop-i-preserved
unfolding value
loop-i-preserved c =
    let l = c.loop-i in
    let total = to_z w64 l.total-bits in
    let z = get_or c.args.row l.i (pos 0) in
    let x = get_or c.args.numerators l.i (pos 0) in
    let small = c.requires.amounts.small l.i in
    let small_2 = c.requires.amounts_2.small l.i in
    let h : l.i < length c.args.row = omega arith in
    let k : to_z w64 (of_z w64 c.plus_product-total.result) ≡ c.plus_product-total.result = search rules in
    let e : to_z w64 (of_z w64 c.plus_product-total.result) ≡ total +ℤ z *ℤ x =
    k ∙ (rw (amount-bits z small, amount-bits x small_2) at c.plus_product-total.ensures) in
    rw e (
      l.invariant.0,
      omega (arith, abs-+-≤ total (z *ℤ x) l.invariant.1 (product-≤ z x small small_2)),
      rw add-one (+_assoc total (z *ℤ x) (terms_from c.args.row c.args.numerators (suc l.i))
          ∙ ap (λ (s : ℤ). total +ℤ s) (sym (terms-more c.args.row c.args.numerators l.i h)) ∙ l.invariant.2),
    )

pub returns : goal.returns
returns c =
    let l = c.loop-i in
    let total = to_z w64 l.total-bits in
    let e : l.i ≡ limit.rationals = omega arith in
    let z : pos 0 ≡ terms_from c.args.row c.args.numerators l.i =
    rw e (terms-none c.args.row c.args.numerators limit.rationals l.invariant.0) in
    sym (+-identityʳ total) ∙ ap (λ (s : ℤ). total +ℤ s) z ∙ l.invariant.2
