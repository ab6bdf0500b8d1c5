-- `assign::with_rational` meets its contract. Assumes nothing.
use mathlib.Core.Path.{◌≡◌, sym, ◌∙◌}
use Prim.Native.Nat.{◌/◌}
use native.Mathlib.Omega.{arith}
use borrow.Author.Rules.{rules}
use lib.IntN.{pos, ◌*ℤ◌}
use lib.ListN.{length}
use Rattle.rules_types.specs.Limits as limit
use Rattle.rules_types.specs.Limits.{amount}
use Rattle.rules.specs.Lists.{put}
use Rattle.rules.specs.Arithmetic.{lcm}
use Rattle.theory_vectors.specs.Lcm.{lcm-positive}
use Rattle.fractions.specs.Meaning.{meaning}
use Rattle.rows.specs.Products.{amount-bits}
use Rattle.models.specs.Model.{value}
use Rattle.walk.specs.Words.{denominator-large, numerators-large, rational-words}
use Rattle.walk.proofs.assign.with_rational.Goals as goal
use Rattle.walk.proofs.assign.with_rational.Goals.{After-lcm-common, After-over-numerators}

common : (c : After-lcm-common) → c.lcm-common.result ≡ lcm c.args.model.denominator c.args.x.denominator
common c = let e : c.from-d.result ≡ c.args.model.denominator = search rules in rw e at c.lcm-common.ensures

pub returns-then-common-gt-AMOUNT : goal.returns-then-common-gt-AMOUNT
returns-then-common-gt-AMOUNT c =
    let a = c.args in
    denominator-large a.model a.f (meaning a.x) c.lcm-common.result (common (goal.at.returns-then-common-gt-AMOUNT c).After-lcm-common)
    c.if-common-gt-AMOUNT.true

-- the row that was computed
scaled : (c : After-over-numerators) → let a = c.args in let D =
    c.lcm-common.result in
    value c.over-numerators.result ≡ put a.f (a.x.numerator *ℤ pos (D / a.x.denominator))
    (λ j. value a.model.numerators j *ℤ pos (D / a.model.denominator))
scaled c =
    let e : c.from-d.result ≡ c.args.model.denominator = search rules in
    rw (amount-bits c.args.x.numerator c.requires.small.numerator, e) at c.over-numerators.ensures

row-length : (c : After-over-numerators) → length c.over-numerators.result ≡ limit.rationals
row-length c = search (rules, c)

pub returns-then-overflowing_row : goal.returns-then-overflowing_row
returns-then-overflowing_row c =
    let a = c.args in
    numerators-large a.model a.f (meaning a.x) c.lcm-common.result
    (common (goal.at.returns-then-overflowing_row c).After-lcm-common) c.over-numerators.result
    (row-length (goal.at.returns-then-overflowing_row c).After-over-numerators)
    (scaled (goal.at.returns-then-overflowing_row c).After-over-numerators)
    (sym c.overflowing_row.ensures ∙ c.if-overflowing_row.true)

pub returns : goal.returns
returns c =
    let a = c.args in
    let e = common (goal.at.returns c).After-lcm-common in
    rational-words a.model a.f (meaning a.x) c.lcm-common.result e c.over-numerators.result
    (row-length (goal.at.returns c).After-over-numerators) (scaled (goal.at.returns c).After-over-numerators)
    (sym c.overflowing_row.ensures ∙ c.if-overflowing_row.false)
    (rw e (lcm-positive a.model.denominator a.x.denominator c.requires.in_range.positive c.requires.small.positive))
    (omega (arith, c.if-common-gt-AMOUNT.false))
