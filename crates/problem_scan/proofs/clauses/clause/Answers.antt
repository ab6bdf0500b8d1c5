-- `clauses::clause` meets its contract: a law for each return.
use mathlib.Core.Path.{sym, ◌∙◌}
use native.Mathlib.Omega.{arith}
use Rattle.problem_scan.specs.Clauses.{clause-short, clause-bad, clause-fault, clause-within, clause-rest}
use Rattle.problem_scan.proofs.clauses.clause.Goals as goal

pub returns-then-input-at : goal.returns-then-input-at
returns-then-input-at c = sym (clause-short c.args.input.now c.args.at c.args.b c.args.r c.requires c.if-input-at.true)

pub overflow_cast-count : goal.overflow_cast-count
overflow_cast-count c = omega (arith, c.shared_slice_known-2-1.given c.args.at)

pub returns-then-count-gt-LITERALS : goal.returns-then-count-gt-LITERALS
returns-then-count-gt-LITERALS c =
    sym (clause-bad c.args.input.now c.args.at c.args.b c.args.r c.if-input-at.false c.if-count-gt-LITERALS.true)

pub returns-in_default : goal.returns-in_default
returns-in_default c =
    clause-fault c.args.input.now c.args.at c.args.b c.args.r c.if-input-at.false c.if-count-gt-LITERALS.false c.literals-read.result
    c.literals-read.ensures _ _ c.in_default.is

pub comparison_list-requires : goal.comparison_list-requires
comparison_list-requires c =
    clause-within c.args.input.now c.args.at c.args.b c.args.r c.if-input-at.false c.if-count-gt-LITERALS.false c.literals-read.result
    c.literals-read.ensures _ c.in-Next.is

pub returns : goal.returns
returns c =
    c.comparison_list.ensures ∙ sym (clause-rest c.args.input.now c.args.at c.args.b c.args.r c.if-input-at.false
    c.if-count-gt-LITERALS.false c.literals-read.result c.literals-read.ensures _ c.in-Next.is)
