-- `check::check_posed` meets its contract: the written clauses, then those that the edition adds. Assumes nothing.
use mathlib.Core.Path.{sym, ◌∙◌}
use native.Mathlib.Omega.{arith}
use Rattle.rules_types.specs.Layout as layout
use Rattle.theory_splitting.specs.Editions.{length-added}
use Rattle.problem_read.specs.Clauses.{length-clauses_at}
use Rattle.problem_read.specs.Parsed.{all_clauses}
use Rattle.models.specs.Model.{assignment}
use Rattle.model_check.specs.Added.{posed-accepted, posed-fails, posed-refused}
use Rattle.model_check.proofs.check.check_posed.Goals as goal

pub check_clauses-written-requires : goal.check_clauses-written-requires
check_clauses-written-requires c = record {
  r_le_rationals = c.requires.readable.parsed.rationals;
  sound_clauses = c.requires.readable.parsed.sound;
  amounts = c.requires.amounts;
}

pub check_added-requires : goal.check_added-requires
check_added-requires c =
    let few = length-added c.args.edition c.args.sizes.rationals in
    let r = c.requires.readable.parsed.rationals in record {
      count_bound = omega
          (arith, c.added.ensures, few, r, c.requires.readable.parsed.clauses);
      count_le_rationals = omega (arith, c.added.ensures, few, r);
      amounts = c.requires.amounts;
    }

pub returns-in-Accepted : goal.returns-in-Accepted
returns-in-Accepted c =
    c.check_added.ensures
    ∙ posed-accepted (assignment c.args.model) (all_clauses c.args.input.now c.args.sizes) c.args.edition
    c.args.sizes.rationals c.added.ensures
    (length-clauses_at c.args.input.now c.args.sizes.rationals c.args.sizes.clauses layout.first_clause)
    (sym c.check_clauses-written.ensures ∙ c.in-Accepted.is)

pub returns-in-Fails : goal.returns-in-Fails
returns-in-Fails c =
    posed-fails (assignment c.args.model) (all_clauses c.args.input.now c.args.sizes) c.args.edition
    c.args.sizes.rationals _ (sym c.check_clauses-written.ensures ∙ c.in-Fails.is)

pub returns-in-Refused : goal.returns-in-Refused
returns-in-Refused c =
    posed-refused (assignment c.args.model) (all_clauses c.args.input.now c.args.sizes) c.args.edition
    c.args.sizes.rationals _ _ (sym c.check_clauses-written.ensures ∙ c.in-Refused.is)
