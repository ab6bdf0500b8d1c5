use Rattle.std.proofs.Common.{◌≡◌, subst, ℕ, suc, ◌-◌, arith, rules, length}
use Rattle.rules_types.specs.Limits as limit
use Rattle.rules.specs.Lines.{boolean}
use Rattle.lines.specs.Order.{variables_of, boolean_round, at-boolean}
use Rattle.steps.specs.Lines.{lines_in}
use Rattle.walk.specs.Backwards.{Walking, walking_start, walking-next}
use Rattle.walk.proofs.backwards.walk_booleans.Goals as goal

pub loop-i-init : goal.loop-i-init
loop-i-init c = walking_start c.requires.ordered (lines_in c.args.proof.now c.args.n)

pub loop-i-preserved : goal.loop-i-preserved
loop-i-preserved c =
    let l = c.loop-i in
    let ls = lines_in c.args.proof.now c.args.n in
    let e : boolean_round l.i ≡ suc (boolean_round (l.i - 1)) = omega (arith, c.loop-i-test.true) in
    let o = c.args.order in
    let n : length o.rationals ≡ limit.rationals = search (rules, c.well_formed) in
    let w = subst (λ (t : ℕ). Walking (variables_of o) ls t l.model) e l.invariant in
    walking-next c.requires.ordered ls (boolean_round (l.i - 1)) (boolean (l.i - 1)) (at-boolean o n (l.i - 1) (omega arith)) l.model w
    c.assign_boolean-model.result c.assign_boolean-model.ensures
