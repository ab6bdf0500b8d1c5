use Rattle.std.proofs.Common.{◌≡◌, ◌+◌, ◌*◌, ◌∙◌, arith, rules, pos, ◌+ℤ◌, ◌*ℤ◌, get_or, to_z, of_z}
use Rattle.std.specs.Int.{w64}
use Rattle.rows.specs.Products.{amount-bits}
use Rattle.problem_scan.specs.Values.{amount_at, behind-is}
use Rattle.problem_scan.specs.Sound.{Amount}
use Rattle.models.specs.Model.{value}
use Rattle.model_check.specs.Any.{each_at}
use Rattle.model_check.specs.Sum.{summing-done, summing-next}
use Rattle.model_check.proofs.comparison.sum.Goals as goal
use Rattle.model_check.proofs.comparison.sum.Goals.{After-amount_at, In-loop-i}

pub overflow_add-from : goal.overflow_add-from
overflow_add-from c = omega (arith, behind-is 4 c.args.count c.args.from, c.requires.from_in_bounds, c.well_formed)

pub amount_at-requires : goal.amount_at-requires
amount_at-requires c = omega (arith, behind-is 4 c.args.count c.args.from, c.requires.from_in_bounds)

-- the amount that was read
amount-here : (c : In-loop-i) → Amount c.args.input.now (c.args.from + c.loop-i.i * 4)
amount-here c = each_at (Amount c.args.input.now) 4 c.args.count c.args.from c.loop-i.i c.loop-i-test.true c.requires.each

read_is : (c : After-amount_at)
    → to_z w64 (of_z w64 c.amount_at.result) ≡ amount_at c.args.input.now (c.args.from + c.loop-i.i * 4)
unfolding amount_at
read_is c = search rules

pub plus_product-total-requires-clause-small : goal.plus_product-total-requires-clause-small
plus_product-total-requires-clause-small c =
    rw (read_is (goal.at.plus_product-total-requires-clause-small c).After-amount_at)
    (amount-here (goal.at.plus_product-total-requires-clause-small c).In-loop-i)

pub loop-i-preserved : goal.loop-i-preserved
unfolding value
loop-i-preserved c =
    let l = c.loop-i in
    let x = c.requires.amounts.small l.i in
    let k : to_z w64 (of_z w64 c.plus_product-total.result) ≡ c.plus_product-total.result = search rules in
    let e : to_z w64 (of_z w64 c.plus_product-total.result) ≡ to_z w64 l.total-bits
    +ℤ amount_at c.args.input.now (c.args.from + l.i * 4) *ℤ get_or c.args.numerators l.i (pos 0) =
    k ∙ (rw (read_is (goal.at.loop-i-preserved c).After-amount_at, amount-bits (get_or c.args.numerators l.i (pos 0)) x)
    at c.plus_product-total.ensures) in
    rw e (summing-next c.args.input.now c.args.numerators c.args.from c.args.count l.i (to_z w64 l.total-bits) l.invariant
    c.loop-i-test.true (amount-here (goal.at.loop-i-preserved c).In-loop-i) x)

pub returns : goal.returns
returns c =
    summing-done c.args.input.now c.args.numerators c.args.from c.args.count c.loop-i.i (to_z w64 c.loop-i.total-bits)
    c.loop-i.invariant c.loop-i-test.false
