use Rattle.std.proofs.Common.{◌≡◌, refl, sym, ◌∙◌, cond, ◌+◌, ◌-ℤ◌, arith, rules, length-set, to_z, of_z}
use Rattle.std.specs.Int.{w64}
use Rattle.models.specs.Model.{value}
use Rattle.kept_rationals.specs.Kept.{inside}
use Rattle.carrying_back.specs.Numerators.{carried_none, carried-done, halves-within, carried-bad, carried-more}
use Rattle.carrying_back.proofs.numerators.carried.Goals as goal
use Rattle.carrying_back.proofs.numerators.carried.Goals.{After-member, After-numerator-z}

pub loop-f-init : goal.loop-f-init
loop-f-init c = (refl, carried_none)

-- whether the variable at hand is kept, and its numerator
is-kept : (c : After-member) → c.member.result ≡ inside c.args.mask c.loop-f.f
unfolding inside
is-kept c = c.member.ensures

numerator-is : (c : After-numerator-z) → to_z w64 (of_z w64 c.numerator-z.result)
    ≡ cond c.member.result (value c.args.numerators c.loop-f.at)
    (value c.args.numerators c.loop-f.at -ℤ value c.args.numerators (c.loop-f.at + 1))
numerator-is c = search rules

pub numerator-z-requires-clause-kept_bound : goal.numerator-z-requires-clause-kept_bound
numerator-z-requires-clause-kept_bound c =
    let k = is-kept (goal.at.numerator-z-requires-clause-kept_bound c).After-member in
    halves-within c.loop-f.invariant.1 c.args.r c.loop-f-test.true _ k c.requires.r_bound

pub returns-then-not-in_range : goal.returns-then-not-in_range
returns-then-not-in_range c =
    carried-bad c.loop-f.invariant.1 c.args.r c.loop-f-test.true _ (is-kept (goal.at.returns-then-not-in_range c).After-member) _
    (numerator-is (goal.at.returns-then-not-in_range c).After-numerator-z)
    (sym c.in_range.ensures ∙ c.if-not-in_range.true)

pub overflow_add-at : goal.overflow_add-at
overflow_add-at c =
    let k = inside c.args.mask c.loop-f.f in
    omega (arith, c.halves.ensures, halves-within c.loop-f.invariant.1 c.args.r c.loop-f-test.true k refl c.requires.r_bound)

pub loop-f-preserved : goal.loop-f-preserved
loop-f-preserved c = (
  length-set c.loop-f.out c.loop-f.f (to_z w64 (of_z w64 c.numerator-z.result)) ∙ c.loop-f.invariant.0,
  carried-more c.loop-f.invariant.1 c.args.r c.loop-f-test.true _ (is-kept (goal.at.loop-f-preserved c).After-member) _
      (numerator-is (goal.at.loop-f-preserved c).After-numerator-z)
      (sym c.in_range.ensures ∙ c.if-not-in_range.false)
      (omega arith) _ c.halves.ensures,
)

pub returns : goal.returns
returns c = carried-done c.loop-f.invariant.1 c.args.r (omega arith)
