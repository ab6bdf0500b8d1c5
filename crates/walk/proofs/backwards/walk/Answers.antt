use Rattle.std.proofs.Common.{◌≡◌, subst, ℕ, suc, ◌-◌, ◌<◌, arith, rules, length, get_or}
use Rattle.rules_types.specs.Limits as limit
use Rattle.rules.specs.Lines.{rational}
use Rattle.theory_saturation.specs.Rounds.{At}
use Rattle.lines.specs.Order.{variables_of, at-rational}
use Rattle.steps.specs.Lines.{lines_in}
use Rattle.walk.specs.Narrow.{narrow-lines}
use Rattle.walk.specs.Backwards.{Walking, walking-next, walking-stop, walking-end}
use Rattle.walk.proofs.backwards.walk.Goals as goal
use Rattle.walk.proofs.backwards.walk.Goals.{In-loop-t}

-- the round that is walked: its number, its variable, and the walk before it
module _ (i : In-loop-t) where
  abbrev t : ℕ
  t = i.loop-t.t - 1

  few : t < limit.rationals
  few = omega arith

  place : let o = i.args.order in At (variables_of o) t (rational (get_or o.rationals t 0))
  place =
      let o = i.args.order in
      let n : length o.rationals ≡ limit.rationals = search (rules, i.well_formed) in
      at-rational o n t few

  walking : Walking (variables_of i.args.order) (lines_in i.args.proof.now i.args.n) (suc t) i.loop-t.model
  walking =
      let l = i.loop-t in
      let e : l.t ≡ suc t = omega (arith, i.loop-t-test.true) in
      subst (λ (k : ℕ). Walking (variables_of i.args.order) (lines_in i.args.proof.now i.args.n) k l.model) e l.invariant

pub returns-in_err-model-clause-by_index : goal.returns-in_err-model-clause-by_index
returns-in_err-model-clause-by_index c =
    let i = (goal.at.returns-in_err-model-clause-by_index c).In-loop-t in
    let e = rw c.rational_round.ensures.value at c.in_err-model.ensures in
    let z = narrow-lines c.args.proof.now c.args.n c.args.r c.requires.ready_lines c.requires.narrow in
    rw c.from_residual.ensures (walking-stop c.requires.ordered (lines_in c.args.proof.now c.args.n) (t i) _ (place i) c.loop-t.model
    (walking i) c.args.r c.requires.r_le_rationals z e)

pub loop-t-preserved : goal.loop-t-preserved
loop-t-preserved c =
    let i = (goal.at.loop-t-preserved c).In-loop-t in
    let e = rw c.rational_round.ensures.value at c.in_ok-model.ensures in
    walking-next c.requires.ordered (lines_in c.args.proof.now c.args.n) (t i) _ (place i) c.loop-t.model (walking i)
    c.in_ok-model.model e

pub returns-clause-by_index : goal.returns-clause-by_index
returns-clause-by_index c =
    let l = c.loop-t in
    let z : l.t ≡ 0 = omega (arith, c.loop-t-test.false) in
    walking-end c.requires.ordered (lines_in c.args.proof.now c.args.n) l.model (rw z at l.invariant) c.args.r
