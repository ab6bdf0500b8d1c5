-- `encode::put_row` meets its contract. Assumes nothing.
use mathlib.Core.Path.{◌≡◌, ap, ◌∙◌}
use mathlib.Core.List.{List}
use Prim.Native.Nat.{ℕ}
use native.Mathlib.Omega.{arith}
use lib.ListN.{length}
use Rattle.rules_types.specs.Limits.{rationals}
use Rattle.rules_types.specs.Layout.{step_bound}
use Rattle.rules.specs.Bytes.{to_bytes, to_unsigned}
use Rattle.fields.specs.Field.{stored}
use Rattle.rows.specs.Products.{amount-bits}
use Rattle.steps.specs.Encoding.{row-stored}
use borrow.Author.Rules.{rules}
use Rattle.steps.proofs.encode.put_row.Goals as goal

pub put_amount-requires : goal.put_amount-requires
put_amount-requires c = record {
  at_in_bounds = omega (arith, c.requires.step_zeros_bound, c.put_coefficients.auto.s);
  z_bound = rw (amount-bits c.args.bound c.requires.small) (omega (arith, c.requires.small));
}

pub returns : goal.returns
returns c =
    let n : length c.args.row ≡ rationals = search (rules, c.well_formed) in
    let e = rw (amount-bits c.args.bound c.requires.small) at c.put_amount.ensures in
    e
    ∙ ap (λ (t : List ℕ). stored step_bound (to_bytes 4 (to_unsigned c.args.bound)) t)
    c.put_coefficients.ensures
    ∙ row-stored c.args.row c.args.bound c.args.s.now n (omega (arith, c.requires.step_zeros_bound))
