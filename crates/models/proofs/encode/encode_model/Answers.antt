-- `encode_model` meets its contract: five parts, each behind the one before. Assumes nothing.
use mathlib.Core.Path.{◌∙◌}
use lib.ListN.{set}
use Rattle.rules_types.specs.Layout as layout
use Rattle.rules.specs.Lists.{tabulate}
use Rattle.rules.specs.Bytes.{to_bytes, amount_bytes}
use Rattle.masks.specs.Mask.{outside}
use Rattle.fields.specs.Field.{stored}
use Rattle.models.specs.Model.{value, assignment}
use Rattle.models.specs.Encoded.{encoded-is}
use Rattle.models.proofs.encode.encode_model.Goals as goal
use Rattle.models.proofs.encode.encode_model.Goals.{After-model_rationals}

pub returns : goal.returns
unfolding assignment
returns c =
    let r = c.args.r in
    let b = c.args.b in
    let numerators = amount_bytes (tabulate r (value c.args.model.numerators)) in
    let denominator = to_bytes 4 c.args.model.denominator in
    c.put_numerators.ensures
    ∙ (λ x. stored (c.model_numerators.ensures x) numerators (c.put_u32.ensures x))
    ∙ (λ x. stored (layout.model_numerators b) numerators (stored (c.model_denominator.ensures x) denominator
    (set (c.put_booleans.ensures x) (c.model_rationals.ensures x) r)))
    ∙ encoded-is b r (outside c.args.occurring) (assignment c.args.model) c.requires.b_le_booleans c.requires.r_le_rationals
