-- `told::evidence_told` meets its contract: by the case that it is. Assumes nothing.
use mathlib.Core.Path.{sym, ap}
use Rattle.rules_types.specs.Answers.{evidence_number, evidence_length}
use Rattle.jemuling.specs.Told.{evidence_told}
use Rattle.jemuling.proofs.told.evidence_told.Goals as goal

pub returns-in-OfProof : goal.returns-in-OfProof
unfolding evidence_told evidence_number evidence_length
returns-in-OfProof c = sym (ap evidence_told c.in-OfProof.is)

pub returns-in-OfModel : goal.returns-in-OfModel
unfolding evidence_told evidence_number evidence_length
returns-in-OfModel c = sym (ap evidence_told c.in-OfModel.is)
