-- `round::assign_rational` meets its contract. Assumes nothing.
use Rattle.fractions.specs.Meaning.{meaning}
use Rattle.steps.specs.Lines.{lines_in}
use Rattle.models.specs.Model.{assignment}
use Rattle.values.specs.Round.{own_of}
use Rattle.walk.specs.Reached.{assigned-by}
use Rattle.walk.proofs.round.assign_rational.Goals as goal

pub returns : goal.returns
returns c =
    let v = c.in_ok-x.ensures in
    assigned-by (assignment c.args.model) c.args.current.rational (own_of c.args.current (lines_in c.args.proof.now c.args.n))
    (meaning c.in_ok-x.x) v.same v.none c.with_rational.result c.with_rational.ensures
