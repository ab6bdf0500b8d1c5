use mathlib.Core.Path.{◌≡◌, sym, subst, ◌∙◌}
use native.Mathlib.Omega.{arith}
use Rattle.theory_saturation.specs.Order.{Ordered}
use Rattle.lines.specs.declared.order.Round.TheVariants.{Of}
use Rattle.lines.specs.Order.{variables_of, Scheduled, IsRound}
use Rattle.placing.specs.declared.point.Progress.TheVariants.{Running}
use Rattle.placing.specs.Point.{running-yes}
use Rattle.rounds.specs.Rounds.{rounds-start, choosable, chose-ordered, rounds-next, rounds-done, rounds-stay}
use Rattle.rounds.proofs.sequence.rounds.Goals as goal
use Rattle.rounds.proofs.sequence.rounds.Goals.{After-order_for-order, Else-not-is_running, In-Of}

pub loop-limits-init : goal.loop-limits-init
loop-limits-init c =
    rounds-start c.args.r c.requires.r_le_rationals c.rising-order.result c.rising-order.ensures.rationals_value c.requires.standing

pub returns-then-not-is_running : goal.returns-then-not-is_running
returns-then-not-is_running c =
    rounds-stay c.args.r c.requires.r_le_rationals c.loop-limits.invariant (sym c.is_running.ensures ∙ c.if-not-is_running.true)

pub order_for-order-requires : goal.order_for-order-requires
order_for-order-requires c =
    let at = c.loop-limits.invariant.leads.standing in
    record {
      held = at.held;
      m_le_most_steps = omega (arith, at.few, c.requires.steps_le_most_steps);
      r_le_rationals = c.requires.r_le_rationals;
      choosable = choosable c.args.r c.requires.r_le_rationals c.loop-limits.invariant;
    }

-- the order for the round is one of rounds
ordered : (c : After-order_for-order) → Ordered (variables_of c.order_for-order.result)
ordered c =
    chose-ordered c.args.r c.requires.r_le_rationals c.loop-limits.invariant c.order_for-order.result c.order_for-order.ensures

pub round_at-requires : goal.round_at-requires
round_at-requires c = ordered (goal.at.round_at-requires c).After-order_for-order

-- the elimination goes on
going : (c : Else-not-is_running) → c.loop-limits.p.progress ≡ Running
going c = running-yes c.loop-limits.p.progress (sym c.is_running.ensures ∙ c.if-not-is_running.false)

-- a variable's round
here : (c : In-Of) → IsRound (variables_of c.order_for-order.result) c.loop-limits.t (Of c.in-Of.v)
here c =
    subst (IsRound (variables_of c.order_for-order.result) c.loop-limits.t) c.in-Of.is
    c.round_at.ensures

pub round-p-requires : goal.round-p-requires
round-p-requires c =
    let p = goal.at.round-p-requires c in
    let r : Scheduled _ = record { ranged = (here p.In-Of).0; ordered = ordered p.After-order_for-order } in
    record {
      standing = c.loop-limits.invariant.leads.standing;
      progress_value = going p.Else-not-is_running;
      scheduled = r;
      steps_le_most_steps = c.requires.steps_le_most_steps;
      pairs_bound = omega (
        arith,
        c.loop-limits.invariant.counted,
        c.loop-limits.invariant.few,
        c.requires.pairs_le_most_steps,
      );
    }

pub returns-in-End : goal.returns-in-End
returns-in-End c =
    rounds-done c.args.r c.requires.r_le_rationals c.loop-limits.invariant c.order_for-order.result c.order_for-order.ensures
    (subst (IsRound (variables_of c.order_for-order.result) c.loop-limits.t) c.in-End.is c.round_at.ensures)

-- before the next round
again : goal.loop-limits-preserved
again c =
    let p = goal.at.loop-limits-preserved c in
    rounds-next c.args.r c.requires.r_le_rationals c.loop-limits.invariant c.order_for-order.result c.order_for-order.ensures
    c.in-Of.v (here p.In-Of) (going p.Else-not-is_running) c.round-p.ensures.reaches c.round-p.ensures.pairs_bound_2

pub loop-limits-preserved : goal.loop-limits-preserved
loop-limits-preserved c = again c

pub loop-limits-smaller : goal.loop-limits-smaller
loop-limits-smaller c = omega (arith, (again c).few)
