-- What solving says, and leaves in proof and model, of an outcome; the faults before the elimination.
use Rattle.std.specs.Prelude.{◌≡◌, refl, List, ℕ}
use Rattle.rules_types.specs.declared.answers.Refusal.{Refusal}
use Rattle.rules_types.specs.declared.answers.Answer.TheVariants.{Refused}
use Rattle.rules_types.specs.declared.answers.Solved.{Solved}
use Rattle.rules_types.specs.declared.limits.Limits.{Limits}
use Rattle.rules_types.specs.declared.terms.Terms.{Terms}
use Rattle.rules.specs.Problem.{in_edition}
use Rattle.rules.specs.Calls.{Outcome, faulted, concluded, said, proof_after, model_after}
use Rattle.rules.specs.Elimination.{limited, elimination}
use Rattle.problem_scan.specs.declared.cursor.Sizes.{Sizes}
use Rattle.problem_read.specs.Parsed.{problem_at}

-- of the lent bytes and what they are then
abbrev pub Leaves : Limits → Outcome → List ℕ → List ℕ → List ℕ → List ℕ → Solved → Type 0
Leaves limits o lent_proof lent_model after filled s =
    (s ≡ said o) × ((after ≡ proof_after limits o lent_proof) × (filled ≡ model_after o lent_model))

-- the outcome of a problem of these sizes, in its edition
abbrev pub outcome_at : Terms → List ℕ → Sizes → Outcome
outcome_at terms q sizes =
    let p = in_edition terms.edition (problem_at q sizes) in concluded p (elimination (limited terms.limits) p)

-- ---- faults 1 to 13 and 18
abbrev pub faulted_by : Refusal → ℕ → Solved
faulted_by f place = record { answer = Refused f place; pairs = 0 }

pub leaves-faulted : (limits : Limits) (f : Refusal) (place : ℕ) (proof model : List ℕ)
    → Leaves limits (faulted f place) proof model proof model (faulted_by f place)
unfolding said proof_after model_after
leaves-faulted limits f place proof model = (refl, (refl, refl))
