-- The numbers of answers: each says one answer, and nothing else does.
use Rattle.std.specs.Prelude.{◌≡◌, refl, ◌↔◌, List, [], ◌∷◌, ℕ, ◌-◌, ◌<◌, ◌≤◌, get_or}
use Rattle.std.proofs.Common.{sym, ap, ◌∙◌, arith}
use Rattle.rules_types.specs.declared.answers.Refusal.{Refusal}
use Rattle.rules_types.specs.declared.answers.Refusal.TheVariants.{ShortProof, ShortModel, LongProblem, Truncated, Booleans, Rationals}
use Rattle.rules_types.specs.declared.answers.Refusal.TheVariants.{Clauses, Literal, Comparisons, Relation, Amount, Trailing, Splits}
use Rattle.rules_types.specs.declared.answers.Refusal.TheVariants.{Overflow, OutOfSteps, ProofLength, BadModel, SecondEquality, Edition}
use Rattle.rules_types.specs.declared.answers.Refusal.TheVariants.{SplitRationals, OutputSpace, CarriedRange}
use Rattle.rules_types.specs.declared.answers.Verdict.{Verdict}
use Rattle.rules_types.specs.declared.answers.Verdict.TheVariants.{Satisfiable, Unsatisfiable, Unwritten}
use Rattle.rules_types.specs.declared.answers.Answer.{Answer}
use Rattle.rules_types.specs.declared.answers.Answer.TheVariants.{Decided, Refused}
use Rattle.rules_types.specs.declared.answers.Checked.{Checked}
use Rattle.rules_types.specs.declared.answers.Checked.TheVariants as checked
use Rattle.rules_types.specs.declared.answers.Evidence.{Evidence}
use Rattle.rules_types.specs.declared.answers.Converted.{Converted}
use Rattle.rules_types.specs.declared.answers.Converted.TheVariants as converted
use Rattle.rules_types.specs.declared.answers.Carried.{Carried}
use Rattle.rules_types.specs.declared.answers.Carried.TheVariants as carried
use Rattle.rules_types.specs.declared.answers.Trimmed.{Trimmed}
use Rattle.rules_types.specs.declared.answers.Trimmed.TheVariants as trimmed
use Rattle.rules_types.specs.declared.answers.Evidence.TheVariants.{OfProof, OfModel}
use Rattle.rules_types.specs.Answers.{refusal_number, verdict_number, answer_number, checked_number, checked_value, evidence_number}
use Rattle.rules_types.specs.Answers.{evidence_length, converted_number, converted_value, carried_number, carried_value}
use Rattle.rules_types.specs.Answers.{trimmed_number, trimmed_value}
use Rattle.promises.specs.Words.{Comes, IsRefused}

-- ---- refusals have different numbers: the refusal comes back from its number
refusals : List Refusal
refusals =
    ShortProof ∷ ShortModel ∷ LongProblem ∷ Truncated ∷ Booleans ∷ Rationals ∷ Clauses ∷ Literal ∷ Comparisons ∷ Relation ∷ Amount
    ∷ Trailing ∷ Splits ∷ Overflow ∷ OutOfSteps ∷ ProofLength ∷ BadModel ∷ SecondEquality ∷ Edition ∷ SplitRationals ∷ OutputSpace ∷
    CarriedRange ∷ []

refusal_of : ℕ → Refusal
refusal_of n = get_or refusals (n - 1) SecondEquality

refusal-back : (f : Refusal) → refusal_of (refusal_number f) ≡ f
unfolding refusal_of refusals refusal_number
refusal-back ShortProof = refl
refusal-back ShortModel = refl
refusal-back LongProblem = refl
refusal-back Truncated = refl
refusal-back Booleans = refl
refusal-back Rationals = refl
refusal-back Clauses = refl
refusal-back Literal = refl
refusal-back Comparisons = refl
refusal-back Relation = refl
refusal-back Amount = refl
refusal-back Trailing = refl
refusal-back Splits = refl
refusal-back Overflow = refl
refusal-back OutOfSteps = refl
refusal-back ProofLength = refl
refusal-back BadModel = refl
refusal-back SecondEquality = refl
refusal-back Edition = refl
refusal-back SplitRationals = refl
refusal-back OutputSpace = refl
refusal-back CarriedRange = refl

pub refusals-differ : (f g : Refusal) → refusal_number f ≡ refusal_number g → f ≡ g
refusals-differ f g e = sym (refusal-back f) ∙ ap refusal_of e ∙ refusal-back g

-- and none has that of a word
pub refusal-below : (f : Refusal) → refusal_number f < 64
unfolding refusal_number
refusal-below ShortProof = omega arith
refusal-below ShortModel = omega arith
refusal-below LongProblem = omega arith
refusal-below Truncated = omega arith
refusal-below Booleans = omega arith
refusal-below Rationals = omega arith
refusal-below Clauses = omega arith
refusal-below Literal = omega arith
refusal-below Comparisons = omega arith
refusal-below Relation = omega arith
refusal-below Amount = omega arith
refusal-below Trailing = omega arith
refusal-below Splits = omega arith
refusal-below Overflow = omega arith
refusal-below OutOfSteps = omega arith
refusal-below ProofLength = omega arith
refusal-below BadModel = omega arith
refusal-below SecondEquality = omega arith
refusal-below Edition = omega arith
refusal-below SplitRationals = omega arith
refusal-below OutputSpace = omega arith
refusal-below CarriedRange = omega arith

verdict-above : (v : Verdict) → 64 ≤ verdict_number v
unfolding verdict_number
verdict-above Satisfiable = omega arith
verdict-above Unsatisfiable = omega arith
verdict-above Unwritten = omega arith

verdict_of : ℕ → Verdict
verdict_of n = get_or (Satisfiable ∷ Unsatisfiable ∷ Unwritten ∷ []) (n - 64) Unwritten

verdict-back : (v : Verdict) → verdict_of (verdict_number v) ≡ v
unfolding verdict_of verdict_number
verdict-back Satisfiable = refl
verdict-back Unsatisfiable = refl
verdict-back Unwritten = refl

-- ---- of solving: a verdict's number and a refusal's come exactly when it does
pub verdict-exactly : (v : Verdict) (a : Answer) → (answer_number a ≡ verdict_number v) ↔ Comes v a
unfolding answer_number
verdict-exactly v (Decided u n) = (λ e. sym (verdict-back u) ∙ ap verdict_of e ∙ verdict-back v, λ e. ap verdict_number e)
verdict-exactly v (Refused f n) = (λ e. absurd (omega (arith, refusal-below f, verdict-above v)), λ e. absurd e)

pub refusal-exactly : (f : Refusal) (a : Answer) → (answer_number a ≡ refusal_number f) ↔ IsRefused f a
unfolding answer_number
refusal-exactly f (Decided v n) = (λ e. absurd (omega (arith, refusal-below f, verdict-above v)), λ e. absurd e)
refusal-exactly f (Refused g n) = (refusals-differ g f, λ e. ap refusal_number e)

-- ---- of a check: accepted, the first line or clause that fails, a refusal with its place
pub accepted-exactly : (c : Checked) → (checked_number c ≡ 67) ↔ (c ≡ checked.Accepted)
unfolding checked_number
accepted-exactly c = (by c, λ e. ap checked_number e)
  where
    by : (c : Checked) → checked_number c ≡ 67 → c ≡ checked.Accepted
    by checked.Accepted e = refl
    by (checked.Fails n) e = absurd (omega arith)
    by (checked.Refused f p) e = absurd (omega (arith, refusal-below f))

pub fails-exactly : (c : Checked) (n : ℕ) → ((checked_number c ≡ 68) × (checked_value c ≡ n)) ↔ (c ≡ checked.Fails n)
unfolding checked_number checked_value
fails-exactly c n = (by c, λ e. (ap checked_number e, ap checked_value e))
  where
    by : (c : Checked) → (checked_number c ≡ 68) × (checked_value c ≡ n) → c ≡ checked.Fails n
    by checked.Accepted e = absurd (omega (arith, e.0))
    by (checked.Fails m) e = ap checked.Fails e.1
    by (checked.Refused f p) e = absurd (omega (arith, refusal-below f, e.0))

pub refused-exactly : (c : Checked) (f : Refusal) (place : ℕ)
    → ((checked_number c ≡ refusal_number f) × (checked_value c ≡ place)) ↔ (c ≡ checked.Refused f place)
unfolding checked_number checked_value
refused-exactly c f place = (by c, λ e. (ap checked_number e, ap checked_value e))
  where
    by : (c : Checked) → (checked_number c ≡ refusal_number f) × (checked_value c ≡ place) → c ≡ checked.Refused f place
    by checked.Accepted e = absurd (omega (arith, refusal-below f, e.0))
    by (checked.Fails n) e = absurd (omega (arith, refusal-below f, e.0))
    by (checked.Refused g p) e = λ i. checked.Refused (refusals-differ g f e.0 i) (e.1 i)

-- ---- of handing back: a part of the proof, a part of the model
pub of-proof-exactly : (e : Evidence) (n : ℕ) → ((evidence_number e ≡ 69) × (evidence_length e ≡ n)) ↔ (e ≡ OfProof n)
unfolding evidence_number evidence_length
of-proof-exactly e n = (by e, λ h. (ap evidence_number h, ap evidence_length h))
  where
    by : (e : Evidence) → (evidence_number e ≡ 69) × (evidence_length e ≡ n) → e ≡ OfProof n
    by (OfProof m) h = ap OfProof h.1
    by (OfModel m) h = absurd (omega (arith, h.0))

pub of-model-exactly : (e : Evidence) (n : ℕ) → ((evidence_number e ≡ 70) × (evidence_length e ≡ n)) ↔ (e ≡ OfModel n)
unfolding evidence_number evidence_length
of-model-exactly e n = (by e, λ h. (ap evidence_number h, ap evidence_length h))
  where
    by : (e : Evidence) → (evidence_number e ≡ 70) × (evidence_length e ≡ n) → e ≡ OfModel n
    by (OfProof m) h = absurd (omega (arith, h.0))
    by (OfModel m) h = ap OfModel h.1

-- ---- of converting: the new problem's length, a refusal with its place
pub length-exactly : (c : Converted) (n : ℕ) → ((converted_number c ≡ 71) × (converted_value c ≡ n)) ↔ (c ≡ converted.Length n)
unfolding converted_number converted_value
length-exactly c n = (by c, λ e. (ap converted_number e, ap converted_value e))
  where
    by : (c : Converted) → (converted_number c ≡ 71) × (converted_value c ≡ n) → c ≡ converted.Length n
    by (converted.Length m) e = ap converted.Length e.1
    by (converted.Refused f p) e = absurd (omega (arith, refusal-below f, e.0))

pub unconverted-exactly : (c : Converted) (f : Refusal) (place : ℕ)
    → ((converted_number c ≡ refusal_number f) × (converted_value c ≡ place)) ↔ (c ≡ converted.Refused f place)
unfolding converted_number converted_value
unconverted-exactly c f place = (by c, λ e. (ap converted_number e, ap converted_value e))
  where
    by : (c : Converted) → (converted_number c ≡ refusal_number f) × (converted_value c ≡ place) → c ≡ converted.Refused f place
    by (converted.Length n) e = absurd (omega (arith, refusal-below f, e.0))
    by (converted.Refused g p) e = λ i. converted.Refused (refusals-differ g f e.0 i) (e.1 i)

-- ---- of carrying back: carried, a refusal with its place
pub carried-exactly : (c : Carried) → (carried_number c ≡ 72) ↔ (c ≡ carried.Done)
unfolding carried_number
carried-exactly c = (by c, λ e. ap carried_number e)
  where
    by : (c : Carried) → carried_number c ≡ 72 → c ≡ carried.Done
    by carried.Done e = refl
    by (carried.Refused f p) e = absurd (omega (arith, refusal-below f))

pub uncarried-exactly : (c : Carried) (f : Refusal) (place : ℕ)
    → ((carried_number c ≡ refusal_number f) × (carried_value c ≡ place)) ↔ (c ≡ carried.Refused f place)
unfolding carried_number carried_value
uncarried-exactly c f place = (by c, λ e. (ap carried_number e, ap carried_value e))
  where
    by : (c : Carried) → (carried_number c ≡ refusal_number f) × (carried_value c ≡ place) → c ≡ carried.Refused f place
    by carried.Done e = absurd (omega (arith, refusal-below f, e.0))
    by (carried.Refused g p) e = λ i. carried.Refused (refusals-differ g f e.0 i) (e.1 i)

-- ---- of trimming: the steps that are left, the first line that fails, a refusal with its place
pub steps-exactly : (t : Trimmed) (n : ℕ) → ((trimmed_number t ≡ 73) × (trimmed_value t ≡ n)) ↔ (t ≡ trimmed.Steps n)
unfolding trimmed_number trimmed_value
steps-exactly t n = (by t, λ e. (ap trimmed_number e, ap trimmed_value e))
  where
    by : (t : Trimmed) → (trimmed_number t ≡ 73) × (trimmed_value t ≡ n) → t ≡ trimmed.Steps n
    by (trimmed.Steps m) e = ap trimmed.Steps e.1
    by (trimmed.Fails m) e = absurd (omega (arith, e.0))
    by (trimmed.Refused f p) e = absurd (omega (arith, refusal-below f, e.0))

pub trimmed-fails-exactly : (t : Trimmed) (n : ℕ) → ((trimmed_number t ≡ 68) × (trimmed_value t ≡ n)) ↔ (t ≡ trimmed.Fails n)
unfolding trimmed_number trimmed_value
trimmed-fails-exactly t n = (by t, λ e. (ap trimmed_number e, ap trimmed_value e))
  where
    by : (t : Trimmed) → (trimmed_number t ≡ 68) × (trimmed_value t ≡ n) → t ≡ trimmed.Fails n
    by (trimmed.Steps m) e = absurd (omega (arith, e.0))
    by (trimmed.Fails m) e = ap trimmed.Fails e.1
    by (trimmed.Refused f p) e = absurd (omega (arith, refusal-below f, e.0))

pub trimmed-refused-exactly : (t : Trimmed) (f : Refusal) (place : ℕ)
    → ((trimmed_number t ≡ refusal_number f) × (trimmed_value t ≡ place)) ↔ (t ≡ trimmed.Refused f place)
unfolding trimmed_number trimmed_value
trimmed-refused-exactly t f place = (by t, λ e. (ap trimmed_number e, ap trimmed_value e))
  where
    by : (t : Trimmed) → (trimmed_number t ≡ refusal_number f) × (trimmed_value t ≡ place) → t ≡ trimmed.Refused f place
    by (trimmed.Steps n) e = absurd (omega (arith, refusal-below f, e.0))
    by (trimmed.Fails n) e = absurd (omega (arith, refusal-below f, e.0))
    by (trimmed.Refused g p) e = λ i. trimmed.Refused (refusals-differ g f e.0 i) (e.1 i)
