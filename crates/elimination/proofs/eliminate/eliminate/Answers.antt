-- `eliminate` meets its contract. Assumes nothing.
use mathlib.Core.Path.{ap, ◌∙◌}
use native.Mathlib.Omega.{arith}
use Rattle.rules.specs.Elimination.{order_by, rationals_after, order_after, loadable_of}
use Rattle.theory_splitting.specs.WellRead.{posed-well-formed}
use Rattle.problem_read.specs.Parsed.{problem_at, posed_at}
use Rattle.lines.specs.Order.{variables_of}
use Rattle.elimination.specs.Loading.{no_pairs}
use Rattle.elimination.specs.Eliminated.{eliminated, order-taken}
use Rattle.elimination.proofs.eliminate.eliminate.Goals as goal

pub rounds-requires : goal.rounds-requires
rounds-requires c =
    let a = c.args in record {
      standing = c.load-loaded.ensures.leads.standing;
      r_le_rationals = c.requires.readable.parsed.rationals;
      steps_le_most_steps = c.requires.steps_le_most_steps;
      pairs_le_most_steps =
          omega (arith, no_pairs (loadable_of (posed_at a.terms.edition a.input.now a.sizes)) c.load-loaded.ensures);
    }

pub returns : goal.returns
unfolding variables_of order_after
returns c =
    let a = c.args in
    let p = posed_at a.terms.edition a.input.now a.sizes in
    let w = posed-well-formed a.terms.edition a.input.now (problem_at a.input.now a.sizes) c.requires.readable.is_read in
    let all = c.rounds.ensures in record {
      eliminated = eliminated p c.load-loaded.ensures all.reaches w;
      order_value = ap order_by (all.order_is ∙ ap rationals_after (order-taken p c.load-loaded.ensures all.reaches));
    }
