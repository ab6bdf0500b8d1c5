-- What an assignment in machine words stands for.
use Rattle.std.specs.Prelude.{false, List, ℕ, ℤ, pos, get_or}
use Rattle.rules_types.specs.Limits as limit
use Rattle.rules.specs.Meaning.{Assignment}
use Rattle.masks.specs.Mask.{bits}
use Rattle.models.specs.declared.model.Model.{Model}

-- a rational variable's numerator
unfoldable pub value : List ℤ → ℕ → ℤ
value numerators f = get_or numerators f (pos 0)

unfoldable pub assignment : Model → Assignment
assignment m = record {
  booleans = λ i. get_or (bits limit.all_booleans m.booleans) i false;
  numerators = value m.numerators;
  denominator = m.denominator;
}
