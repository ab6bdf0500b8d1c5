-- `evidence::hand_back` meets its contract: the part lies within its buffer. Assumes nothing.
use mathlib.Core.Path.{sym, subst, ◌∙◌}
use Rattle.handing_back.specs.Evidence.{Within, part-within, proof-bytes, model-bytes}
use Rattle.handing_back.proofs.evidence.hand_back.Goals as goal
use Rattle.handing_back.proofs.evidence.hand_back.Goals.{After-evidence-part}

-- the part that was found, within its buffer
within : (a : After-evidence-part)
    → Within a.args.limits a.args.number a.args.steps a.args.proof.now a.args.model.now a.evidence-part.result
within a =
    let place = Within a.args.limits a.args.number a.args.steps a.args.proof.now a.args.model.now in
    subst place (sym a.evidence-part.ensures)
    (part-within a.args.limits a.args.number a.args.steps a.args.proof.now a.args.model.now)

pub slice_bounds-result-end : goal.slice_bounds-result-end
slice_bounds-result-end c =
    let place = Within c.args.limits c.args.number c.args.steps c.args.proof.now c.args.model.now in
    subst place c.in-OfProof.is (within (goal.at.slice_bounds-result-end c).After-evidence-part)

pub slice_bounds-result-end-in-OfModel : goal.slice_bounds-result-end-in-OfModel
slice_bounds-result-end-in-OfModel c =
    let place = Within c.args.limits c.args.number c.args.steps c.args.proof.now c.args.model.now in
    subst place c.in-OfModel.is (within (goal.at.slice_bounds-result-end-in-OfModel c).After-evidence-part)

pub returns-in-OfProof : goal.returns-in-OfProof
returns-in-OfProof c =
    proof-bytes c.args.limits c.args.number c.args.steps c.args.proof.now c.args.model.now _ _
    (sym c.evidence-part.ensures ∙ c.in-OfProof.is)

pub returns-in-OfModel : goal.returns-in-OfModel
returns-in-OfModel c =
    model-bytes c.args.limits c.args.number c.args.steps c.args.proof.now c.args.model.now _ _
    (sym c.evidence-part.ensures ∙ c.in-OfModel.is)
