-- 02, (vi): what converting a first-edition problem and carrying a model back promise.
use Rattle.std.specs.Prelude.{◌≡◌, ◌↔◌, ◌⊎◌, true, List, ℕ, suc, ◌+◌, ◌*◌, ◌-◌, ◌≤◌, ◌<◌, ℤ, nat_abs, ◌-ℤ◌, T, length, take, drop}
use Rattle.rules_types.specs.declared.answers.Refusal.{Refusal}
use Rattle.rules_types.specs.declared.answers.Refusal.TheVariants as refusal
use Rattle.rules_types.specs.declared.answers.Converted.TheVariants as converted
use Rattle.rules_types.specs.declared.answers.Carried.TheVariants as carried
use Rattle.rules_types.specs.declared.answers.Checked.TheVariants.{Accepted}
use Rattle.rules_types.specs.declared.limits.Limits.{Limits}
use Rattle.rules_types.specs.declared.terms.Edition.TheVariants.{First, Second}
use Rattle.rules_types.specs.Limits as limit
use Rattle.rules_types.specs.Terms.{on}
use Rattle.rules.specs.Problem.{Problem, in_edition}
use Rattle.rules.specs.Meaning.{Assignment}
use Rattle.rules.specs.Model.{is_open}
use Rattle.rules.specs.Calls.{faulty, sound, read, model_checked}
use Rattle.rules.specs.Convert.{kept, place_of, Converting, convert, carried_back, Carrying}
use Rattle.theory_layout.specs.Offsets.{StatesModel, ModelAt, FirstBadField}
use Rattle.theory_conversion.specs.Length.{comparisons_in}
use Rattle.theory_conversion.specs.Kept.{Keeps}
use Rattle.theory_conversion.specs.Places.{HalfOf, Paired, SplitClause}
use Rattle.promises.specs.Words.{SomeAssignment, InNoClause}

-- ---- words
-- "A converter keeps a figure if some clause ... Any other figure becomes two, ..., the pair side by side": which are kept, and where the
-- halves of variable f stand
pub record Halves (p : Problem) : Type 0 where
  pub keeps : (f : ℕ) → (kept p f ≡ true) ↔ Keeps p f
  pub first : place_of (kept p) 0 ≡ 0
  pub one : (f : ℕ) → Keeps p f → place_of (kept p) (suc f) ≡ place_of (kept p) f + 1
  pub two : (f : ℕ) → (Keeps p f → ⊥) → place_of (kept p) (suc f) ≡ place_of (kept p) f + 2
  pub every : (i : ℕ) → i < place_of (kept p) p.rationals → HalfOf (kept p) p.rationals i

-- how many rational variables result, and how many bytes
abbrev pub new_rationals : Problem → ℕ
new_rationals p = place_of (kept p) p.rationals

abbrev pub new_length : List ℕ → Problem → ℕ
new_length input p = length input + comparisons_in p.clauses * (4 * (new_rationals p - p.rationals))

-- the new problem in its bytes
pub record NewProblem (p : Problem) (bytes : List ℕ) : Type 0 where
  pub problem : Problem
  -- it is read without fault
  pub reads : read bytes ≡ sound problem
  pub booleans : problem.booleans ≡ p.booleans
  pub rationals : problem.rationals ≡ new_rationals p
  -- "the first minus the second", and "all else is copied"
  pub clauses : Paired (SplitClause (kept p) p.rationals) p.clauses problem.clauses
  pub opens : is_open problem ≡ is_open p
  -- "The new question has a solution in edition 2 exactly if the old one has in edition 1"
  pub solutions : SomeAssignment p ↔ SomeAssignment (in_edition Second problem)

-- ---- converting: `lent` is the buffer before it
pub record Converts (input lent : List ℕ) (ours : Converting) : Type 0 where
  pub faulty_input : (f : Refusal) (place : ℕ) → read input ≡ faulty f place → ours.converted ≡ converted.Refused f place
  pub halves : (p : Problem) → read input ≡ sound p → Halves p
  -- 20: "over 8 figures result", "place 0"
  pub split : (p : Problem) → read input ≡ sound p
      → (ours.converted ≡ converted.Refused refusal.SplitRationals 0) ↔ (limit.rationals < new_rationals p)
  -- "then 21": "the result exceeds 32,768 bytes or the buffer"
  pub space : (p : Problem) → read input ≡ sound p
      → (ours.converted ≡ converted.Refused refusal.OutputSpace 0)
      ↔ ((new_rationals p ≤ limit.rationals) × ((limit.problem_bytes < new_length input p) ⊎ (length lent < new_length input p)))
  -- "It returns the new question's length."
  pub returns : (p : Problem) → read input ≡ sound p → (n : ℕ)
      → (ours.converted ≡ converted.Length n)
      ↔ ((new_rationals p ≤ limit.rationals) × (n ≡ new_length input p) × (n ≤ limit.problem_bytes) × (n ≤ length lent))
  pub new : (p : Problem) → read input ≡ sound p → (n : ℕ) → ours.converted ≡ converted.Length n → NewProblem p (take n ours.output)
  -- "bytes past the result keep their content"; a refusal alters none
  pub beyond : (n : ℕ) → ours.converted ≡ converted.Length n → drop n ours.output ≡ drop n lent
  pub untouched : (f : Refusal) (place : ℕ) → ours.converted ≡ converted.Refused f place → ours.output ≡ lent
  pub size : length ours.output ≡ length lent

-- ---- carrying back: `lent` is the target before it
-- "carried back by subtraction"; "marks and denominator are kept"
pub record Subtracts (p : Problem) (χ back : Assignment) : Type 0 where
  pub booleans : back.booleans ≡ χ.booleans
  pub denominator : back.denominator ≡ χ.denominator
  pub same : (f : ℕ) → Keeps p f → back.numerators f ≡ χ.numerators (place_of (kept p) f)
  pub difference : (f : ℕ) → (Keeps p f → ⊥)
      → back.numerators f ≡ χ.numerators (place_of (kept p) f) -ℤ χ.numerators (suc (place_of (kept p) f))

-- "a carried numerator leaves the range, ..., place the first such old figure"
pub record FirstOutside (r : ℕ) (x : ℕ → ℤ) (f : ℕ) : Type 0 where
  pub below : f < r
  pub outside : limit.amount < nat_abs (x f)
  pub first : (g : ℕ) → g < f → nat_abs (x g) ≤ limit.amount

-- no test before 17 refuses
pub record Tested (p : Problem) (bytes lent : List ℕ) : Type 0 where
  pub few : new_rationals p ≤ limit.rationals
  pub size : limit.model_bytes ≤ length bytes
  pub room : limit.model_bytes ≤ length lent

-- the choice that a model of the new problem states
abbrev pub States : Problem → List ℕ → Assignment → Type 0
States p bytes χ = StatesModel bytes p.booleans (new_rationals p) (is_open p) χ

pub record CarriesBack (input bytes lent : List ℕ) (ours : Carrying) : Type 0 where
  pub faulty_input : (f : Refusal) (place : ℕ) → read input ≡ faulty f place → ours.carried ≡ carried.Refused f place
  pub halves : (p : Problem) → read input ≡ sound p → Halves p
  -- which Boolean variables are open, in the new problem as in the old
  pub opens : (p : Problem) (i : ℕ) → T (is_open p i) ↔ InNoClause p i
  -- "after 13 it tests 20"
  pub split : (p : Problem) → read input ≡ sound p
      → (ours.carried ≡ carried.Refused refusal.SplitRationals 0) ↔ (limit.rationals < new_rationals p)
  -- "then 2 on both sheets"
  pub short : (p : Problem) → read input ≡ sound p
      → (ours.carried ≡ carried.Refused refusal.ShortModel 0)
      ↔ ((new_rationals p ≤ limit.rationals) × ((length bytes < limit.model_bytes) ⊎ (length lent < limit.model_bytes)))
  -- "then 17 against the new question"
  pub field : (p : Problem) → read input ≡ sound p → Tested p bytes lent → (place : ℕ)
      → (ours.carried ≡ carried.Refused refusal.BadModel place) ↔ FirstBadField bytes p.booleans (new_rationals p) (is_open p) place
  -- 22, "after 17"
  pub range : (p : Problem) → read input ≡ sound p → Tested p bytes lent → (χ : Assignment) → States p bytes χ → (f : ℕ)
      → (ours.carried ≡ carried.Refused refusal.CarriedRange f) ↔ FirstOutside p.rationals (carried_back (kept p) χ).numerators f
  -- else it is carried
  pub done : (p : Problem) → read input ≡ sound p
      → (ours.carried ≡ carried.Done)
      ↔ (Tested p bytes lent × ((χ : Assignment) × States p bytes χ
      × ((f : ℕ) → f < p.rationals → nat_abs ((carried_back (kept p) χ).numerators f) ≤ limit.amount)))
  pub subtracts : (p : Problem) (χ : Assignment) → Subtracts p χ (carried_back (kept p) χ)
  -- "the target's other bytes up to 64 are 0"
  pub model : (p : Problem) → read input ≡ sound p → ours.carried ≡ carried.Done → (χ : Assignment) → States p bytes χ
      → ModelAt ours.model p.booleans p.rationals (is_open p) (carried_back (kept p) χ)
  pub beyond : drop limit.model_bytes ours.model ≡ drop limit.model_bytes lent
  pub untouched : (f : Refusal) (place : ℕ) → ours.carried ≡ carried.Refused f place → ours.model ≡ lent
  pub size : length ours.model ≡ length lent
  -- "a sheet of the new that the check accepts is carried back ... to one that satisfies the old": the check accepts it
  pub accepted : (limits : Limits) (out : List ℕ) (n : ℕ) → (convert input out).converted ≡ converted.Length n
      → model_checked (on limits Second) (take n (convert input out).output) bytes ≡ Accepted → limit.model_bytes ≤ length lent
      → (ours.carried ≡ carried.Done) × (model_checked (on limits First) input ours.model ≡ Accepted)
