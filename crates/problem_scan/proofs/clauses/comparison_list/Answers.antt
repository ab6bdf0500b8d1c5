-- `clauses::comparison_list` meets its contract: a law for each return.
use mathlib.Core.Path.{sym, ◌∙◌}
use native.Mathlib.Omega.{arith}
use Rattle.problem_scan.specs.Clauses.{list-short, list-bad, list-good}
use Rattle.problem_scan.proofs.clauses.comparison_list.Goals as goal

pub returns-then-input-at : goal.returns-then-input-at
returns-then-input-at c = sym (list-short c.args.input.now c.args.at c.args.r c.requires c.if-input-at.true)

pub overflow_cast-count : goal.overflow_cast-count
overflow_cast-count c = omega (arith, c.shared_slice_known-2-1.given c.args.at)

pub returns-then-count-gt-COMPARISONS : goal.returns-then-count-gt-COMPARISONS
returns-then-count-gt-COMPARISONS c =
    sym (list-bad c.args.input.now c.args.at c.args.r c.if-input-at.false c.if-count-gt-COMPARISONS.true)

pub returns : goal.returns
returns c =
    c.comparisons.ensures ∙ sym (list-good c.args.input.now c.args.at c.args.r c.if-input-at.false c.if-count-gt-COMPARISONS.false)
