use Rattle.std.proofs.Common.{◌≡◌, sym, ◌∙◌, ◌+◌, ◌*◌, arith, rules, length-set}
use Rattle.std.proofs.Common.{to_z, of_z}
use Rattle.std.specs.Int.{w64}
use Rattle.problem_scan.specs.Values.{amount_at}
use Rattle.models.specs.Numerators.{row_more, row-bad, row_done}
use Rattle.models.proofs.numerators.numerators.Goals as goal
use Rattle.models.proofs.numerators.numerators.Goals.{After-amount_at-z}

-- the amount that was read
read_is : (c : After-amount_at-z)
    → to_z w64 (of_z w64 c.amount_at-z.result) ≡ amount_at c.args.s.now (c.args.from + c.loop-i.i * 4)
unfolding amount_at
read_is c = search rules

pub returns-then-not-in_range : goal.returns-then-not-in_range
returns-then-not-in_range c =
    row-bad c.loop-i.invariant.1 c.loop-i-test.true c.requires.count_in_bounds _
    (read_is (goal.at.returns-then-not-in_range c).After-amount_at-z) (sym c.in_range.ensures ∙ c.if-not-in_range.true)

pub loop-i-preserved : goal.loop-i-preserved
loop-i-preserved c =
    let l = c.loop-i in (
      length-set l.out l.i (to_z w64 (of_z w64 c.amount_at-z.result)) ∙ l.invariant.0,
      row_more _ l.invariant.1 (omega arith) (read_is (goal.at.loop-i-preserved c).After-amount_at-z)
          (sym c.in_range.ensures ∙ c.if-not-in_range.false),
    )

pub returns : goal.returns
returns c = row_done c.loop-i.invariant.1 (omega arith) c.requires.count_in_bounds
