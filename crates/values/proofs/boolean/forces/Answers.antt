-- `boolean::forces` meets its contract. Assumes nothing.
use mathlib.Core.Path.{◌≡◌, refl, sym, ap, ◌∙◌}
use mathlib.Core.Bool.{Bool, not, true, false, ◌&&◌}
use borrow.Author.Rules.{rules}
use borrow.Author.Tests.{eq-eqb, ne_eqb, not-true, not-false}
use lib.Dec.{eqb}
use Rattle.rules.specs.Lines.{line_holds, boolean, positively}
use Rattle.rules.specs.Elimination.{round_of}
use Rattle.rules.specs.Values.{without_boolean}
use Rattle.lines.specs.Order.{variables_of, boolean_round}
use Rattle.lines.specs.Line.{meaning}
use Rattle.models.specs.Model.{assignment}
use Rattle.values.specs.Boolean.{forces}
use Rattle.values.proofs.boolean.forces.Goals as goal
use Rattle.values.proofs.boolean.forces.Goals.{After-boolean_round}

without : (a b c : Bool) → b ≡ false → false ≡ a && (b && c)
without true b c e = rw e
without false b c e = refl

pub returns-then-not-has_positive_boolean : goal.returns-then-not-has_positive_boolean
unfolding forces
returns-then-not-has_positive_boolean c =
    let t : c.has_positive_boolean.result ≡ false = search (rules, not-true, not-false) in
    let l = meaning c.args.line in
    without (eqb (round_of (variables_of c.args.order) l) (boolean_round c.args.i)) (positively (boolean c.args.i) l)
    (not (line_holds (assignment c.args.model) (without_boolean c.args.i l)))
    (sym c.has_positive_boolean.ensures ∙ t)

-- the two rounds compared
compared : (c : After-boolean_round) → eqb c.round.result c.boolean_round.result
    ≡ eqb (round_of (variables_of c.args.order) (meaning c.args.line)) (boolean_round c.args.i)
compared c = λ k. eqb (c.round.ensures k) (c.boolean_round.ensures k)

pub returns-then-round-boolean_round : goal.returns-then-round-boolean_round
unfolding forces
returns-then-round-boolean_round c =
    rw (sym (compared (goal.at.returns-then-round-boolean_round c).After-boolean_round)
    ∙ ne_eqb c.round.result c.boolean_round.result c.if-round-boolean_round.true)

pub returns : goal.returns
unfolding forces
returns c =
    let t : c.has_positive_boolean.result ≡ true = search (rules, not-true, not-false) in
    rw (
      sym (compared (goal.at.returns c).After-boolean_round) ∙ eq-eqb c.round.result c.boolean_round.result c.if-round-boolean_round.false,
      sym c.has_positive_boolean.ensures ∙ t,
      ← c.without_boolean-rest.ensures.0,
    )
    (ap not c.line_holds.ensures)
