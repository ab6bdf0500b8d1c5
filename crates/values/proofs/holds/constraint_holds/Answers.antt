-- `holds::constraint_holds` meets its contract. Assumes nothing.
use mathlib.Core.Path.{◌≡◌, sym, ◌∙◌}
use mathlib.Core.Bool.{Bool}
use native.Mathlib.Omega.{arith}
use borrow.Author.Rules.{sfits_of}
use borrow.Author.Tests.{eq-eqb, ne_eqb}
use lib.Dec.{eqb}
use mir.Syntax.{w64}
use mir.Val.{to_z, of_z}
use mir.Facts.{to_z-of_z}
use Rattle.rules.specs.Arithmetic.{related}
use Rattle.rules.specs.Lines.{the_constraint_holds}
use Rattle.lines.specs.Line.{meaning}
use Rattle.rows.specs.Products.{amount-bits}
use Rattle.models.specs.Model.{assignment}
use Rattle.values.specs.Constraint.{none-holds, some_holds}
use Rattle.values.proofs.holds.constraint_holds.Goals as goal
use Rattle.values.proofs.holds.constraint_holds.Goals.{After-scaled-b}

pub returns-then-line-eq0 : goal.returns-then-line-eq0
returns-then-line-eq0 c = sym (none-holds c.args.line c.args.model c.if-line-eq0.true)

-- the comparison is the definition's
compared : (c : After-scaled-b) (t : Bool) → eqb c.args.line.relation 2 ≡ t
    → related t (to_z w64 (of_z w64 c.sum-s.result)) (to_z w64 (of_z w64 c.scaled-b.result))
    ≡ the_constraint_holds (assignment c.args.model) (meaning c.args.line).constraint
compared c t e =
    let l = c.args.line in
    some_holds l c.args.model t (to_z w64 (of_z w64 c.sum-s.result)) (to_z w64 (of_z w64 c.scaled-b.result))
    (omega (arith, c.if-line-eq0.false)) e (to_z-of_z {w = w64} (sfits_of c.sum-s.type_inv) ∙ c.sum-s.ensures)
    (to_z-of_z {w = w64} (sfits_of c.scaled-b.type_inv) ∙ (rw (amount-bits l.bound c.requires.ready.bound) at c.scaled-b.ensures))

pub returns-then-line-eq2 : goal.returns-then-line-eq2
unfolding related
returns-then-line-eq2 c =
    compared (goal.at.returns-then-line-eq2 c).After-scaled-b _ (eq-eqb c.args.line.relation 2 c.if-line-eq2.true)

pub returns-else-line-eq2 : goal.returns-else-line-eq2
unfolding related
returns-else-line-eq2 c =
    compared (goal.at.returns-else-line-eq2 c).After-scaled-b _ (ne_eqb c.args.line.relation 2 c.if-line-eq2.false)
