-- `decide::decide` meets its contract: a law for each end of the elimination. Assumes nothing.
use mathlib.Core.Path.{sym, subst, ◌∙◌}
use Rattle.rules.specs.Elimination.{limited}
use Rattle.theory_saturation.specs.Order.{Ordered}
use Rattle.theory_saturation.specs.Taken.{run-ordered}
use Rattle.theory_splitting.specs.WellFormed.{WellFormed}
use Rattle.theory_splitting.specs.WellRead.{posed-well-formed}
use Rattle.theory_splitting.specs.Editions.{open-posed}
use Rattle.problem_read.specs.Parsed.{problem_at, posed_at}
use Rattle.solving.specs.Left.{few-steps, narrow, order_is, leaves-overflow, leaves-out, leaves_empty, leaves-saturated}
use borrow.Author.Rules.{rules}
use Rattle.solving.proofs.decide.decide.Goals as goal
use Rattle.solving.proofs.decide.decide.Goals.{After-eliminate-run}

-- the problem is well formed, in its edition
formed : (c : After-eliminate-run) → let a = c.args in
    WellFormed (posed_at a.terms.edition a.input.now a.sizes)
formed c =
    let a = c.args in
    posed-well-formed a.terms.edition a.input.now (problem_at a.input.now a.sizes) c.requires.readable.is_read

pub without_model-requires-clause-steps_le_steps : goal.without_model-requires-clause-steps_le_steps
without_model-requires-clause-steps_le_steps c =
    few-steps (formed (goal.at.without_model-requires-clause-steps_le_steps c).After-eliminate-run) c.eliminate-run.ensures.eliminated

pub occurring-used-requires : goal.occurring-used-requires
occurring-used-requires c = c.requires.readable

pub saturated-requires : goal.saturated-requires
saturated-requires c =
    let a = c.args in
    let e = c.eliminate-run.ensures.eliminated in
    let w = formed (goal.at.saturated-requires c).After-eliminate-run in
    let ordered = subst Ordered (sym c.eliminate-run.ensures.order_value) (run-ordered (limited a.terms.limits)
    (posed_at a.terms.edition a.input.now a.sizes) w.rationals) in
    record {
      b_le_booleans = c.requires.readable.parsed.booleans;
      r_le_rationals = c.requires.readable.parsed.rationals;
      steps_le_steps = few-steps w e;
      steps_in_bounds = search rules;
      model_bytes_in_bounds = c.requires.model_bytes_in_bounds;
      ready_lines = e.ready;
      narrow = narrow w e;
      ordered = ordered;
    }

pub returns-in-Overflow : goal.returns-in-Overflow
returns-in-Overflow c =
    let e = c.refuse.ensures in
    let t = leaves-overflow (formed (goal.at.returns-in-Overflow c).After-eliminate-run) c.eliminate-run.ensures.eliminated
    c.args.model.now c.in-Overflow.is in
    record { value = e.value ∙ t.0; proof_after = e.proof_after ∙ t.1.0; model_after = t.1.1 }

pub returns-in-OutOfSteps : goal.returns-in-OutOfSteps
returns-in-OutOfSteps c =
    let e = c.refuse-in-OutOfSteps.ensures in
    let t = leaves-out (formed (goal.at.returns-in-OutOfSteps c).After-eliminate-run) c.eliminate-run.ensures.eliminated
    c.args.model.now c.in-OutOfSteps.is in
    record { value = e.value ∙ t.0; proof_after = e.proof_after ∙ t.1.0; model_after = t.1.1 }

pub returns-in-Empty : goal.returns-in-Empty
returns-in-Empty c =
    let e = c.without_model.ensures in
    let t = leaves_empty (formed (goal.at.returns-in-Empty c).After-eliminate-run) c.eliminate-run.ensures.eliminated
    c.args.model.now c.in-Empty.is in
    record { value = e.value ∙ t.0; proof_after = e.proof_after ∙ t.1.0; model_after = e.model_after ∙ t.1.1 }

pub returns-in-Running : goal.returns-in-Running
returns-in-Running c =
    let a = c.args in
    let e = c.eliminate-run.ensures in
    let w = formed (goal.at.returns-in-Running c).After-eliminate-run in
    let order = e.order_value ∙ order_is w e.eliminated c.in-Running.is in
    let opens = c.occurring-used.ensures ∙ sym (open-posed a.terms.edition (problem_at a.input.now a.sizes)) in
    let t = leaves-saturated w e.eliminated a.model.now c.saturated.new.model c.saturated.result
    c.in-Running.is (rw (order, opens) at c.saturated.ensures.written) in
    record { value = t.0; proof_after = c.saturated.ensures.proof_after ∙ t.1.0; model_after = t.1.1 }
