-- `covered::bound_as_tight` meets its contract. Assumes nothing.
use mathlib.Core.Path.{ap}
use mir.Syntax.{w64}
use mir.Val.{of_z}
use mir.Facts.{to_z-of_z}
use borrow.Author.Rules.{rules}
use Rattle.machine.specs.Signed.{bits-injective}
use Rattle.placing.specs.Tight.{bound-equal, bound-other}
use Rattle.placing.proofs.covered.bound_as_tight.Goals as goal

pub returns-then-earlier-bound : goal.returns-then-earlier-bound
returns-then-earlier-bound c = bound-equal c.args.earlier c.args.bound c.args.as_strict
    (bits-injective c.args.earlier c.args.bound (search (rules, c.well_formed)) (search (rules, c.well_formed)) c.if-earlier-bound.true)

pub returns : goal.returns
returns c = rw (
  to_z-of_z {w = w64} {z = c.args.earlier} (search (rules, c.well_formed)),
  to_z-of_z {w = w64} {z = c.args.bound} (search (rules, c.well_formed)),
)
    (bound-other c.args.earlier c.args.bound c.args.as_strict (λ e. c.if-earlier-bound.false (ap (of_z w64) e)))
