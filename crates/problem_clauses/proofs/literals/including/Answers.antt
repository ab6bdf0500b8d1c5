-- `literals::including` meets its contract: the variable goes into the set of the literal's sign.
use mathlib.Core.Path.{sym, ◌∙◌}
use Rattle.rules_types.specs.Limits.{all_booleans}
use Rattle.masks.specs.Mask.{bits}
use Rattle.problem_clauses.specs.Literals.{joined-positive, joined-negative}
use Rattle.problem_clauses.proofs.literals.including.Goals as goal

pub returns-then-code-lt128 : goal.returns-then-code-lt128
returns-then-code-lt128 c = record {
  positive = c.with.ensures ∙ sym
      (joined-positive c.args.code (bits all_booleans c.args.l.positive) c.if-code-lt128.true).0;
  negative =
      sym (joined-positive c.args.code (bits all_booleans c.args.l.negative) c.if-code-lt128.true).1;
}

pub returns : goal.returns
returns c = record {
  positive = sym (joined-negative c.args.code (bits all_booleans c.args.l.positive) c.if-code-lt128.false).0;
  negative = c.with-2.ensures ∙ sym (joined-negative c.args.code (bits all_booleans c.args.l.negative) c.if-code-lt128.false).1;
}
