-- `derive::by_named` meets its contract. Assumes nothing.
use mathlib.Core.Option.{some}
use borrow.Author.Tests.{ne_eqb}
use Rattle.lines.specs.Line.{meaning}
use Rattle.step_check.specs.Derived.{by-rational, by-boolean, by-none}
use Rattle.step_check.specs.Made.{holds_same}
use Rattle.step_check.proofs.derive.by_named.Goals as goal

pub returns-then-how-eq1 : goal.returns-then-how-eq1
returns-then-how-eq1 c =
    holds_same (by-rational c.args.origin c.if-how-eq1.true (some (meaning c.args.upper))
    (some (meaning c.args.lower))) c.by_rational.ensures

pub returns-then-how-eq2 : goal.returns-then-how-eq2
returns-then-how-eq2 c =
    holds_same (by-boolean c.args.origin c.if-how-eq2.true (some (meaning c.args.upper))
    (some (meaning c.args.lower))) c.by_boolean.ensures

pub returns : goal.returns
returns c =
    holds_same (by-none c.args.origin (ne_eqb c.args.origin.how 1 c.if-how-eq1.false)
    (ne_eqb c.args.origin.how 2 c.if-how-eq2.false) (some (meaning c.args.upper))
    (some (meaning c.args.lower))) c.unstated.ensures
