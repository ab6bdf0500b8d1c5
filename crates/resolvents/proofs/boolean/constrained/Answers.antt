-- `boolean::constrained` meets its contract. Assumes nothing.
use mathlib.Core.Path.{sym}
use Rattle.lines.specs.Line.{meaning}
use Rattle.resolvents.specs.Resolvent.{one-upper, one_lower}
use Rattle.resolvents.proofs.boolean.constrained.Goals as goal

pub returns-then-upper-ne0 : goal.returns-then-upper-ne0
unfolding meaning
returns-then-upper-ne0 c =
    let u = c.args.upper in record {
      result_value = sym (one-upper u.relation u.coefficients u.bound
          (meaning c.args.lower).constraint c.if-upper-ne0.true);
      ready_3 = c.requires.ready;
    }

pub returns : goal.returns
unfolding meaning
returns c =
    let u = c.args.upper in record {
      result_value = sym (one_lower u.relation u.coefficients u.bound
          (meaning c.args.lower).constraint c.if-upper-ne0.false);
      ready_3 = c.requires.ready_2;
    }
