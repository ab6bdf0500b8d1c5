use mathlib.Core.Path.{refl, ap, ◌∙◌}
use mathlib.Core.List.{List}
use Prim.Native.Nat.{ℕ, ◌+◌, ◌*◌}
use native.Mathlib.Omega.{arith}
use borrow.Author.Rules.{rules}
use lib.IntN.{ℤ, pos}
use lib.ListN.{get_or}
use lib.Seq.{take_all}
use Rattle.rules_types.specs.Layout.{step_coefficients}
use Rattle.rules.specs.Bytes.{to_bytes, to_unsigned, amount_bytes}
use Rattle.fields.specs.Field.{stored}
use Rattle.rows.specs.Products.{amount-bits}
use Rattle.fields.specs.Filled.{amounts-more, amounts-none}
use Rattle.steps.proofs.encode.put_coefficients.Goals as goal

pub loop-i-init : goal.loop-i-init
loop-i-init c = (omega arith, search rules, refl, amounts-none step_coefficients c.args.s.now)

pub put_amount-requires : goal.put_amount-requires
put_amount-requires c =
    let l = c.loop-i in
    let h = c.requires.amounts.small l.i in record {
      at_in_bounds = omega (arith, c.requires.step_bound_bound, l.invariant.2);
      z_bound = rw (amount-bits (get_or c.args.row l.i (pos 0)) h) (omega (arith, h));
    }

pub loop-i-preserved : goal.loop-i-preserved
loop-i-preserved c =
    let l = c.loop-i in
    let row = c.args.row in
    let z = get_or row l.i (pos 0) in
    let e = rw (amount-bits z (c.requires.amounts.small l.i)) at c.put_amount.ensures in (
      omega arith,
      l.invariant.1,
      c.put_amount.auto.s ∙ l.invariant.2,
      e
          ∙ ap (λ (t : List ℕ). stored (step_coefficients + 4 * l.i) (to_bytes 4 (to_unsigned z)) t) l.invariant.3
          ∙ amounts-more step_coefficients row l.i c.args.s.now (omega (arith, l.invariant.1)) (omega (arith, c.requires.step_bound_bound)),
    )

pub returns : goal.returns
returns c =
    let l = c.loop-i in
    l.invariant.3 ∙ ap (λ (zs : List ℤ). stored step_coefficients (amount_bytes zs) c.args.s.now)
    (take_all l.i c.args.row (omega (arith, l.invariant.1)))
