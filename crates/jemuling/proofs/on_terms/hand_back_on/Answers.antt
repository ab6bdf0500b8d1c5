-- `on_terms::hand_back_on` meets its contract. Assumes nothing.
use mathlib.Core.Path.{ap, ◌∙◌}
use Rattle.jemuling.specs.Told.{evidence_told}
use Rattle.jemuling.specs.Kept.{part-handed}
use Rattle.jemuling.proofs.on_terms.hand_back_on.Goals as goal

pub returns : goal.returns
returns c =
    let t = c.evidence_told.ensures ∙ ap evidence_told c.evidence.ensures in record { value = t; part_handed = part-handed _ _ _ _ _ _ t }
