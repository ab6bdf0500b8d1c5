use Rattle.std.proofs.Common.{◌≡◌, sym, ap, ◌∙◌, List, ℕ, ◌+◌, ◌*◌, arith, ℤ, pos, get_or, take}
use Rattle.rules.specs.Bytes.{to_bytes, to_unsigned, amount_bytes}
use Rattle.theory_lists.specs.Tabulated.{tabulate-take}
use Rattle.fields.specs.Field.{stored}
use Rattle.rows.specs.Products.{amount-bits}
use Rattle.models.specs.Model.{value}
use Rattle.fields.specs.Filled.{amounts-more, amounts-none}
use Rattle.models.proofs.encode.put_numerators.Goals as goal

pub loop-i-init : goal.loop-i-init
loop-i-init c = amounts-none c.args.at c.args.s.now

pub loop-i-preserved : goal.loop-i-preserved
loop-i-preserved c =
    let l = c.loop-i in
    let zs = c.args.numerators in
    let z = get_or zs l.i (pos 0) in
    let e = rw (amount-bits z (c.requires.amounts.small l.i)) at c.put_amount.ensures in
    let more = ap (λ (x : List ℕ). stored (c.args.at + 4 * l.i) (to_bytes 4 (to_unsigned z)) x) l.invariant in
    let last = amounts-more c.args.at zs l.i c.args.s.now (omega arith)
    (omega (arith, c.requires.rationals_bound, c.requires.model_bytes_in_bounds)) in
    e ∙ more ∙ last

pub returns : goal.returns
unfolding value
returns c =
    let l = c.loop-i in
    let zs = c.args.numerators in
    let e : l.i ≡ c.args.r = omega arith in
    let t = ap (λ (n : ℕ). take n zs) e ∙ sym (tabulate-take c.args.r zs (pos 0) (omega arith)) in
    l.invariant ∙ ap (λ (x : List ℤ). stored c.args.at (amount_bytes x) c.args.s.now) t
