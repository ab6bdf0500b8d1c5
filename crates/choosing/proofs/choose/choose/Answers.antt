use mathlib.Core.Path.{◌≡◌, sym, ap, ◌∙◌, subst⁻¹}
use Prim.Native.Nat.{ℕ, ◌+◌, ◌<◌}
use native.Mathlib.Omega.{arith}
use lib.IntN.{ℤ}
use lib.Signed.{lt_z}
use lib.ListN.{length, get_or, take}
use mir.Syntax.{w64}
use mir.Val.{of_z, to_z}
use mir.Facts.{to_z-of_z}
use Rattle.rules_types.specs.Limits as limit
use mathlib.Core.List.{List}
use Rattle.rules.specs.Elimination.{order_by, order_after, cost}
use Rattle.theory_saturation.specs.Order.{Ordered}
use Rattle.theory_saturation.specs.Taken.{taken_more, taken-ordered}
use Rattle.lines.specs.Order.{variables_of}
use Rattle.steps.specs.Held.{steps_in}
use Rattle.choosing.specs.Counts.{cost_at, Within, counted-cost}
use Rattle.choosing.specs.Choice.{Looked, looked-first, looked-cheaper, looked-other, looked-last}
use borrow.Author.Rules.{rules, sfits_of}
use Rattle.choosing.proofs.choose.choose.Goals as goal
use Rattle.choosing.proofs.choose.choose.Goals.{After-cost-cost, After-counted-counts, Start, then-cost-least, else-cost-least}

row : (s : Start) → length s.args.order.rationals ≡ limit.rationals
row s = search (rules, s.well_formed)

-- the order is one of rounds
ordered : (s : Start) → Ordered (variables_of s.args.order)
unfolding variables_of order_after
ordered s =
    let taken = take s.args.t s.args.order.rationals in
    subst⁻¹ (λ (fs : List ℕ). Ordered (order_by fs)) s.requires.rationals_value
    (taken-ordered taken (taken_more s.args.r limit.rationals taken s.requires.r_le_rationals s.requires.taken))

pub counted-counts-requires-clause-ordered : goal.counted-counts-requires-clause-ordered
counted-counts-requires-clause-ordered c = ordered (goal.at.counted-counts-requires-clause-ordered c).Start

-- the counts are small
few : (c : After-counted-counts) → Within limit.most_steps c.counted-counts.result
few c f k = (
  omega (arith, (c.counted-counts.ensures.within f k).0, c.requires.m_le_most_steps),
  omega (arith, (c.counted-counts.ensures.within f k).1, c.requires.m_le_most_steps),
)

-- the cost of what stands at place j
module _ (c : After-counted-counts) where
  abbrev price : ℕ → ℤ
  price j =
      let fs = c.args.order.rationals in
      cost (take c.args.t fs) (steps_in c.args.proof.now c.args.m) (get_or fs j 0)

  priced : (j f : ℕ) (z : ℤ) → f ≡ get_or c.args.order.rationals j 0 → f < limit.rationals → z ≡ cost_at c.counted-counts.result f
      → z ≡ price j
  priced j f z e k h =
      let taken = take c.args.t c.args.order.rationals in
      let steps = steps_in c.args.proof.now c.args.m in
      h ∙ counted-cost taken steps c.counted-counts.result c.counted-counts.ensures.counted f k ∙ ap (cost taken steps) e

pub rational-requires-clause-ordered : goal.rational-requires-clause-ordered
rational-requires-clause-ordered c = ordered (goal.at.rational-requires-clause-ordered c).Start

pub loop-j-init : goal.loop-j-init
loop-j-init c = (
  looked-first c.args.order.rationals c.args.t c.requires.rationals_value
      (row (goal.at.loop-j-init c).Start) c.args.r c.requires.r_le_rationals
      c.requires.t_lt_r
      c.requires.taken (steps_in c.args.proof.now c.args.m),
  to_z-of_z {w = w64} (sfits_of c.cost-least.type_inv)
      ∙ priced
      (goal.at.loop-j-init c).After-counted-counts c.args.t c.rational.result c.cost-least.result c.rational.ensures.value
      c.rational.ensures.upper_bound
      c.cost-least.ensures,
)

pub rational-requires-in-loop-j-clause-ordered : goal.rational-requires-in-loop-j-clause-ordered
rational-requires-in-loop-j-clause-ordered c = ordered (goal.at.rational-requires-in-loop-j-clause-ordered c).Start

-- the comparison of the two words, as one of costs
module _ (c : After-cost-cost) where
  here : c.cost-cost.result ≡ price (goal.at.After-cost-cost c).After-counted-counts c.loop-j.j
  here =
      let r = c.rational-in-loop-j in
      priced
      (goal.at.After-cost-cost c).After-counted-counts c.loop-j.j r.result c.cost-cost.result r.ensures.value r.ensures.upper_bound
      c.cost-cost.ensures

  word : to_z w64 (of_z w64 c.cost-cost.result) ≡ price (goal.at.After-cost-cost c).After-counted-counts c.loop-j.j
  word = to_z-of_z {w = w64} (sfits_of c.cost-cost.type_inv) ∙ here

  compared : lt_z (to_z w64 (of_z w64 c.cost-cost.result)) (to_z w64 c.loop-j.least-bits)
      ≡ lt_z (price (goal.at.After-cost-cost c).After-counted-counts c.loop-j.j)
      (price (goal.at.After-cost-cost c).After-counted-counts c.loop-j.best)
  compared = λ i. lt_z (word i) (c.loop-j.invariant.1 i)

pub loop-j-preserved : goal.loop-j-preserved
loop-j-preserved c =
    let l = c.loop-j in
    let fs = c.args.order.rationals in
    let t = c.args.t in
    let r = c.args.r in
    let steps = steps_in c.args.proof.now c.args.m in
    let costs : ℕ → ℤ = price (goal.at.loop-j-preserved c).After-counted-counts in
    let is = c.requires.rationals_value in
    let small = c.requires.r_le_rationals in
    let more = c.requires.t_lt_r in
    let apart = c.requires.taken in
    let k = (goal.at.loop-j-preserved c).After-cost-cost in
    elim c.if-cost-least.branch [
      | then-cost-least w ↦ (
        subst⁻¹ (λ (b : ℕ). Looked fs t r steps b (l.j + 1)) w.best-is
            (looked-cheaper fs t is (row (goal.at.loop-j-preserved c).Start) r small more apart steps l.best l.j l.invariant.0 (omega arith)
            (sym (compared k) ∙ w.if-cost-least.true)),
        w.least-is ∙ word k ∙ ap costs (sym w.best-is),
      )
      | else-cost-least w ↦ (
        subst⁻¹ (λ (b : ℕ). Looked fs t r steps b (l.j + 1)) w.best-is
            (looked-other fs t is (row (goal.at.loop-j-preserved c).Start) r small more apart steps l.best l.j l.invariant.0 (omega arith)
            (sym (compared k) ∙ w.if-cost-least.false)),
        w.least-is ∙ l.invariant.1 ∙ ap costs (sym w.best-is),
      )
    ]

pub returns : goal.returns
returns c =
    let l = c.loop-j in
    let e : l.j ≡ c.args.r = omega (arith, l.invariant.0.within) in
    c.moved.ensures
    ∙ looked-last c.args.order.rationals c.args.t c.requires.rationals_value
    (row (goal.at.returns c).Start) c.args.r c.requires.r_le_rationals
    c.requires.t_lt_r
    c.requires.taken (steps_in c.args.proof.now c.args.m) l.best (rw e at l.invariant.0)
