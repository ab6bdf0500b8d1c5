-- `round::assign_boolean` meets its contract. Assumes nothing.
use mathlib.Core.Path.{refl, ap, ◌∙◌}
use mathlib.Core.Bool.{Bool}
use Rattle.rules.specs.Values.{with_boolean, assign, exceeds}
use Rattle.models.specs.Model.{assignment}
use Rattle.walk.proofs.round.assign_boolean.Goals as goal

pub returns : goal.returns
unfolding assign exceeds
returns c =
    let e = c.with_boolean.ensures in
    record {
      same = e.0 ∙ ap (λ (a : Bool). with_boolean c.args.i a (assignment c.args.model)) c.boolean_value-yes.ensures;
      range = e.1;
      none = refl;
    }
