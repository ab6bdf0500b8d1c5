-- What the calls promise, with either limit of lines: the demands, said of the numbers that they return and of the bytes that they leave.
-- Each record stands in the `ensures` of its calls (src/calls.rt, src/calls_in.rt, src/carrying.rt, src/shortening.rt), beside the
-- equation with the definition.
use Rattle.std.specs.Prelude.{◌≡◌, ◌↔◌, List, ℕ}
use Rattle.rules_types.specs.declared.answers.Refusal.{Refusal}
use Rattle.rules_types.specs.declared.answers.Verdict.{Verdict}
use Rattle.rules_types.specs.declared.answers.Solved.{Solved}
use Rattle.rules_types.specs.declared.answers.Checked.{Checked}
use Rattle.rules_types.specs.declared.answers.Checked.TheVariants.{Accepted, Fails, Refused}
use Rattle.rules_types.specs.declared.answers.Evidence.{Evidence}
use Rattle.rules_types.specs.declared.answers.Evidence.TheVariants.{OfProof, OfModel}
use Rattle.rules_types.specs.declared.answers.Converted.{Converted}
use Rattle.rules_types.specs.declared.answers.Converted.TheVariants as converted
use Rattle.rules_types.specs.declared.answers.Carried.{Carried}
use Rattle.rules_types.specs.declared.answers.Carried.TheVariants as carried
use Rattle.rules_types.specs.declared.answers.Trimmed.{Trimmed}
use Rattle.rules_types.specs.declared.answers.Trimmed.TheVariants as trimmed
use Rattle.rules_types.specs.declared.limits.Limits.{Limits}
use Rattle.rules_types.specs.declared.terms.Edition.TheVariants.{First, Second}
use Rattle.rules_types.specs.declared.terms.Terms.{Terms}
use Rattle.rules_types.specs.Answers.{refusal_number, verdict_number, answer_value}
use Rattle.rules_types.specs.Terms.{on}
use Rattle.rules.specs.Problem.{Problem, in_edition}
use Rattle.rules.specs.Calls.{sound, read, Solving, proof_checked_in, model_checked_in}
use Rattle.rules.specs.Convert.{Converting, Carrying}
use Rattle.rules.specs.Trim.{Trimming}
use Rattle.theory_bytes.specs.Bytes.{AllBytes}
use Rattle.promises.specs.Words.{Comes, IsRefused, FullSize}
use Rattle.promises.specs.Handing.{Hands}
use Rattle.promises.specs.Checks.{ChecksProof, ChecksModel}
use Rattle.promises.specs.Demand1.{Demand1}
use Rattle.promises.specs.Demand2.{Demand2}
use Rattle.promises.specs.Demand3.{Demand3}
use Rattle.promises.specs.Editions.{Editions, Other}
use Rattle.promises.specs.CarriedOver.{Converts, CarriesBack}
use Rattle.promises.specs.Trimming.{Shortens}
use Rattle.jemuling.specs.declared.told.Told.{Told}
use Rattle.jemuling.specs.declared.told.SolvedTold.{SolvedTold}

-- ---- numbers: each comes exactly when its answer does
pub record TellsSolved (told : SolvedTold) (says : Solved) : Type 0 where
  pub verdict : (v : Verdict) → (told.number ≡ verdict_number v) ↔ Comes v says.answer
  pub refusal : (f : Refusal) → (told.number ≡ refusal_number f) ↔ IsRefused f says.answer
  pub value : told.value ≡ answer_value says.answer
  pub pairs : told.pairs ≡ says.pairs

pub record TellsChecked (told : Told) (says : Checked) : Type 0 where
  pub accepted : (told.number ≡ 67) ↔ (says ≡ Accepted)
  pub fails : (n : ℕ) → ((told.number ≡ 68) × (told.value ≡ n)) ↔ (says ≡ Fails n)
  pub refused : (f : Refusal) (place : ℕ) → ((told.number ≡ refusal_number f) × (told.value ≡ place)) ↔ (says ≡ Refused f place)

pub record TellsPart (told : Told) (part : Evidence) : Type 0 where
  pub of_proof : (n : ℕ) → ((told.number ≡ 69) × (told.value ≡ n)) ↔ (part ≡ OfProof n)
  pub of_model : (n : ℕ) → ((told.number ≡ 70) × (told.value ≡ n)) ↔ (part ≡ OfModel n)

pub record TellsConverted (told : Told) (says : Converted) : Type 0 where
  pub length : (n : ℕ) → ((told.number ≡ 71) × (told.value ≡ n)) ↔ (says ≡ converted.Length n)
  pub refused : (f : Refusal) (place : ℕ)
      → ((told.number ≡ refusal_number f) × (told.value ≡ place)) ↔ (says ≡ converted.Refused f place)

pub record TellsCarried (told : Told) (says : Carried) : Type 0 where
  pub done : (told.number ≡ 72) ↔ (says ≡ carried.Done)
  pub refused : (f : Refusal) (place : ℕ) → ((told.number ≡ refusal_number f) × (told.value ≡ place)) ↔ (says ≡ carried.Refused f place)
  pub value : says ≡ carried.Done → told.value ≡ 0

pub record TellsTrimmed (told : Told) (says : Trimmed) : Type 0 where
  pub steps : (n : ℕ) → ((told.number ≡ 73) × (told.value ≡ n)) ↔ (says ≡ trimmed.Steps n)
  pub fails : (n : ℕ) → ((told.number ≡ 68) × (told.value ≡ n)) ↔ (says ≡ trimmed.Fails n)
  pub refused : (f : Refusal) (place : ℕ) → ((told.number ≡ refusal_number f) × (told.value ≡ place)) ↔ (says ≡ trimmed.Refused f place)

-- ---- the calls; a lent slice holds bytes, so what the demands say of bytes holds of it
-- `jemuling_solve`, `jemuling_preview_solve`: `lent_proof` and `lent_model` are the buffers before it, `proof` and `model` what it left in
-- them
pub record Delivered (terms : Terms) (input lent_proof lent_model : List ℕ) (told : SolvedTold) (proof model : List ℕ) : Type 0 where
  pub bytes : AllBytes input
  pub bytes_left : AllBytes proof × AllBytes model
  pub ours : Solving
  pub tells : TellsSolved told ours.solved
  pub leaves_proof : proof ≡ ours.proof
  pub leaves_model : model ≡ ours.model
  pub first : Demand1 terms input lent_proof lent_model ours
  pub second : (p : Problem) → read input ≡ sound p → Demand2 terms.edition input (in_edition terms.edition p)
  pub third : (p : Problem) → read input ≡ sound p → FullSize terms.limits lent_proof lent_model
      → Demand3 terms input (in_edition terms.edition p) lent_proof lent_model ours

-- `jemuling_check_book`, `jemuling_preview_check_book`
pub record BookChecked (terms : Terms) (input proof : List ℕ) (told : Told) : Type 0 where
  pub bytes : AllBytes input
  pub says : Checked
  pub tells : TellsChecked told says
  pub checks : ChecksProof terms input proof says

-- `jemuling_check_sheet`
pub record SheetChecked (terms : Terms) (input model : List ℕ) (told : Told) : Type 0 where
  pub bytes : AllBytes input
  pub says : Checked
  pub tells : TellsChecked told says
  pub checks : ChecksModel terms input model says

-- `jemuling_hand_back`, `jemuling_preview_hand_back`, from a number and lines as the caller names them
pub record PartHanded (limits : Limits) (number lines : ℕ) (proof model : List ℕ) (told : Told) : Type 0 where
  pub part : Evidence
  pub tells : TellsPart told part
  pub hands : Hands limits number lines proof model part

-- ---- 02, (v): the calls that name an edition by its number; what is promised in each, and 19 for every other number, "tested first ...,
-- place 0", and for no other reason
-- `jemuling_solve_in`, `jemuling_preview_solve_in`
pub record DeliveredIn (limits : Limits) (edition : ℕ) (input lent_proof lent_model : List ℕ) (told : SolvedTold) (proof model : List ℕ)
    : Type 0 where
  pub first : edition ≡ 1 → Delivered (on limits First) input lent_proof lent_model told proof model
  pub second : edition ≡ 2 → Delivered (on limits Second) input lent_proof lent_model told proof model
  -- what the second asks beyond the first
  pub editions : (p : Problem) → read input ≡ sound p → Editions p
  pub refused : (told.number ≡ 19) ↔ Other edition
  -- "alter no byte", "report no pairs"
  pub other : Other edition → (told ≡ record { number = 19; value = 0; pairs = 0 }) × (proof ≡ lent_proof) × (model ≡ lent_model)

-- `jemuling_check_book_in`, `jemuling_preview_check_book_in`
pub record BookCheckedIn (limits : Limits) (edition : ℕ) (input proof : List ℕ) (told : Told) : Type 0 where
  pub first : edition ≡ 1 → BookChecked (on limits First) input proof told
  pub second : edition ≡ 2 → BookChecked (on limits Second) input proof told
  pub editions : (p : Problem) → read input ≡ sound p → Editions p
  -- a proof accepted in the first edition is accepted in the second
  pub kept : edition ≡ 1 → told.number ≡ 67 → proof_checked_in limits 2 input proof ≡ Accepted
  pub refused : (told.number ≡ 19) ↔ Other edition
  pub other : Other edition → told ≡ record { number = 19; value = 0 }

-- `jemuling_check_sheet_in`
pub record SheetCheckedIn (limits : Limits) (edition : ℕ) (input model : List ℕ) (told : Told) : Type 0 where
  pub first : edition ≡ 1 → SheetChecked (on limits First) input model told
  pub second : edition ≡ 2 → SheetChecked (on limits Second) input model told
  pub editions : (p : Problem) → read input ≡ sound p → Editions p
  -- a model accepted in the second edition is accepted in the first
  pub kept : edition ≡ 2 → told.number ≡ 67 → model_checked_in limits 1 input model ≡ Accepted
  pub refused : (told.number ≡ 19) ↔ Other edition
  pub other : Other edition → told ≡ record { number = 19; value = 0 }

-- ---- 02, (vi): the calls that carry a problem over and a model back; they name no edition
-- `jemuling_convert`: `lent` is the buffer before it, `output` what it left in it
pub record ProblemConverted (input lent : List ℕ) (told : Told) (output : List ℕ) : Type 0 where
  pub bytes : AllBytes input
  pub bytes_left : AllBytes output
  pub ours : Converting
  pub tells : TellsConverted told ours.converted
  pub leaves : output ≡ ours.output
  pub converts : Converts input lent ours

-- `jemuling_carry_back`: `lent` is the target before it, `target` what it left in it
pub record ModelCarriedBack (input model lent : List ℕ) (told : Told) (target : List ℕ) : Type 0 where
  pub bytes : AllBytes input
  pub bytes_left : AllBytes target
  pub ours : Carrying
  pub tells : TellsCarried told ours.carried
  pub leaves : target ≡ ours.model
  pub carries : CarriesBack input model lent ours

-- ---- 02, (xi): the call that writes a short book; `lent` is the target before it, `target` what it left in it
pub record BookShortened (terms : Terms) (input proof lent : List ℕ) (told : Told) (target : List ℕ) : Type 0 where
  pub bytes : AllBytes input
  pub bytes_left : AllBytes target
  pub ours : Trimming
  pub tells : TellsTrimmed told ours.trimmed
  pub leaves : target ≡ ours.target
  pub shortens : Shortens terms input proof lent ours

-- `jemuling_shorten_book_in`
pub record BookShortenedIn (limits : Limits) (edition : ℕ) (input proof lent : List ℕ) (told : Told) (target : List ℕ) : Type 0 where
  pub first : edition ≡ 1 → BookShortened (on limits First) input proof lent told target
  pub second : edition ≡ 2 → BookShortened (on limits Second) input proof lent told target
  pub editions : (p : Problem) → read input ≡ sound p → Editions p
  pub refused : (told.number ≡ 19) ↔ Other edition
  -- "alter no byte"
  pub other : Other edition → (told ≡ record { number = 19; value = 0 }) × (target ≡ lent)
