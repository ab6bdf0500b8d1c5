-- The assignments that the walk goes on with: amounts over a denominator that is an amount, at least 1.
use Rattle.std.specs.Prelude.{◌≤◌, ◌<◌}
use Rattle.rules_types.specs.Limits.{amount}
use Rattle.theory_vectors.specs.Amounts.{Amounts}
use Rattle.models.specs.declared.model.Model.{Model}

pub record InRange (m : Model) : Type 0 where
  pub amounts : Amounts m.numerators
  pub positive : 0 < m.denominator
  pub small : m.denominator ≤ amount
