-- `normalize::trivial` meets its contract. Assumes nothing.
use mathlib.Core.Path.{ap, ◌∙◌}
use lib.Dec.{eqb}
use lib.IntN.{ℤ, pos}
use mir.Facts.{to_z-of_z}
use Rattle.rules.specs.Arithmetic.{related}
use Rattle.normalization.proofs.normalize.trivial.Goals as goal

pub returns : goal.returns
returns c =
    c.zero_related.ensures ∙ ap (λ (z : ℤ). related (eqb c.args.relation 2) (pos 0) z) (to_z-of_z c.ranges.bound)
