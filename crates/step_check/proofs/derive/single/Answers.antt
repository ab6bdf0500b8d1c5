-- `derive::single` meets its contract. Assumes nothing.
use mathlib.Core.Path.{sym}
use borrow.Author.Tests.{eq-eqb, ne_eqb}
use Rattle.step_check.specs.Made.{constraint-test}
use Rattle.step_check.proofs.derive.single.Goals as goal

pub returns-then-upper-eq0 : goal.returns-then-upper-eq0
returns-then-upper-eq0 c = rw (constraint-test c.args.upper, eq-eqb c.args.upper.relation 0 c.if-upper-eq0.true)

pub returns : goal.returns
returns c = rw (
  constraint-test c.args.upper,
  ne_eqb c.args.upper.relation 0 c.if-upper-eq0.false,
) (sym (constraint-test c.args.lower))
