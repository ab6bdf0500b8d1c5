-- The words of the demands, for their statements.
use Rattle.std.specs.Prelude.{◌≡◌, ◌↔◌, ◌⊎◌, List, [], ◌∷◌, map, ℕ, ◌+◌, ◌*◌, ◌≤◌, ◌<◌, length, drop}
use Rattle.std.proofs.Math.Option.{Option, none, some}
use Rattle.rules_types.specs.declared.answers.Refusal.{Refusal}
use Rattle.rules_types.specs.declared.answers.Refusal.TheVariants as refusal
use Rattle.rules_types.specs.declared.answers.Verdict.{Verdict}
use Rattle.rules_types.specs.declared.answers.Answer.{Answer}
use Rattle.rules_types.specs.declared.answers.Answer.TheVariants.{Decided, Refused}
use Rattle.rules_types.specs.declared.limits.Limits.{Limits}
use Rattle.rules_types.specs.Limits as limit
use Rattle.rules.specs.Bytes.{field_at}
use Rattle.rules.specs.Problem.{Problem}
use Rattle.rules.specs.Meaning.{Assignment, Satisfies}
use Rattle.rules.specs.Lines.{Line}
use Rattle.rules.specs.Steps.{Step}
use Rattle.rules.specs.Elimination.{Stops, End, limited, unlimited, order_of, elimination}
use Rattle.rules.specs.Needs.{steps_of}
use Rattle.rules.specs.Values.{Walked, walk}
use Rattle.rules.specs.Model.{is_open, written}
use Rattle.rules.specs.Calls.{Solving}
use Rattle.theory_layout.specs.Offsets.{HoldsSteps, ModelAt, StatesModel}
use Rattle.theory_splitting.specs.Occurs.{Stands}
use Rattle.theory_elimination.specs.Events.{Event}
use Rattle.theory_elimination.specs.Cut.{stop_at}
use Rattle.theory_checks.specs.LinesFollow.{LinesFollow}
use Rattle.theory_checks.specs.EndsEmpty.{EndsEmpty}

-- "one does", for: some assignment satisfies Q
abbrev pub SomeAssignment : Problem → Type 0
SomeAssignment p = (χ : Assignment) × Satisfies χ p

-- what the walk backwards makes of Q's lines, by 01's value rule
unfoldable pub walk_of : Problem → Walked
walk_of p = walk (order_of p) (map (λ s. s.line) (steps_of (elimination unlimited p)))

-- what the rule gives for Q: a model, or none where it says "unwritten"
unfoldable pub model_of : Problem → Option (List ℕ)
model_of p = written p.booleans p.rationals (is_open p) (walk_of p)

-- "gives a sheet"
abbrev pub GivesModel : Problem → Type 0
GivesModel p = (bytes : List ℕ) × (model_of p ≡ some bytes)

-- a verdict "comes"; a refusal does
abbrev pub Comes : Verdict → Answer → Type 0
Comes v (Decided u n) = u ≡ v
Comes v (Refused f n) = ⊥

abbrev pub IsRefused : Refusal → Answer → Type 0
IsRefused f (Decided v n) = ⊥
IsRefused f (Refused g n) = g ≡ f

-- "wide" or "full" comes
abbrev pub LimitMet : Answer → Type 0
LimitMet a = IsRefused refusal.Overflow a ⊎ IsRefused refusal.OutOfSteps a

-- "whichever the course meets first": what stops it, where anything does
unfoldable pub first_stop : Stops → List Event → Option End
first_stop stops [] = none
first_stop stops (e ∷ es) = elim (stop_at stops e) [ none ↦ first_stop stops es | some end ↦ some end ]

-- "full-size buffers": 1 and 2 do not refuse them
pub record FullSize (limits : Limits) (proof model : List ℕ) : Type 0 where
  pub proof_size : limit.proof_bytes limits ≤ length proof
  pub model_size : limit.model_bytes ≤ length model

-- the proof after a verdict: the elimination's lines and zeros, each field at its offset, and what lay beyond
pub record HoldsLines (limits : Limits) (p : Problem) (proof lent_proof : List ℕ) : Type 0 where
  pub lines : HoldsSteps proof (steps_of (elimination (limited limits) p)) limits.steps
  -- "Eight coefficients, 0 from r on"
  pub narrow : (i f : ℕ) → i < length (steps_of (elimination (limited limits) p)) → p.rationals ≤ f → f < 8
      → field_at (64 * i + (16 + 4 * f)) 4 proof ≡ 0
  pub beyond : drop (limit.proof_bytes limits) proof ≡ drop (limit.proof_bytes limits) lent_proof

-- ---- 02, (iv)
-- "a mark that stands in no clause as read": no literal of any clause as written has it
abbrev pub InNoClause : Problem → ℕ → Type 0
InNoClause p i = Stands i p.clauses → ⊥

-- another assignment, which differs at such variables alone
pub record DiffersAtOpen (p : Problem) (χ ξ : Assignment) : Type 0 where
  pub booleans : (i : ℕ) → Stands i p.clauses → ξ.booleans i ≡ χ.booleans i
  pub numerators : (f : ℕ) → f < p.rationals → ξ.numerators f ≡ χ.numerators f
  pub denominator : ξ.denominator ≡ χ.denominator

-- "2 exactly there"; "satisfies the question with either value": of each of them, in every combination
pub record OpenVariables (p : Problem) (bytes : List ℕ) (χ : Assignment) : Type 0 where
  pub two : (i : ℕ) → i < p.booleans → (field_at (1 + i) 1 bytes ≡ 2) ↔ InNoClause p i
  pub either : (ξ : Assignment) → DiffersAtOpen p χ ξ → Satisfies ξ p

-- "ours is that sheet, and the choice on it satisfies Q": `ours` is what solving leaves, `lent_model` what the lent model held before
pub record OurModel (p : Problem) (ours : Solving) (lent_model : List ℕ) : Type 0 where
  pub rule : GivesModel p
  pub written : ModelAt ours.model p.booleans p.rationals (is_open p) (walk_of p).assignment
  pub beyond : drop limit.model_bytes ours.model ≡ drop limit.model_bytes lent_model
  pub satisfies : Satisfies (walk_of p).assignment p
  pub opens : OpenVariables p ours.model (walk_of p).assignment

-- "every clause holds": bytes enough for a model, and the assignment that they state satisfies Q
pub record WritesAssignment (p : Problem) (bytes : List ℕ) : Type 0 where
  pub size : limit.model_bytes ≤ length bytes
  pub assignment : Assignment
  pub stated : StatesModel bytes p.booleans p.rationals (is_open p) assignment
  pub satisfies : Satisfies assignment p

-- "64 to 65,536 by 64s": bytes of k whole lines, no more than the limit
pub record WholeLines (limits : Limits) (bytes k : ℕ) : Type 0 where
  pub count : bytes ≡ limit.step_bytes * k
  pub some : 1 ≤ k
  pub few : k ≤ limits.steps

-- "its lines follow": k lines of 64 bytes, which state these
pub record AllFollow (parts : List Step) (k : ℕ) (bytes : List ℕ) (lines : List Line) : Type 0 where
  pub count : length lines ≡ k
  pub follow : LinesFollow parts [] bytes lines

-- "its lines follow and the last is empty"
pub record Refutes (parts : List Step) (k : ℕ) (bytes : List ℕ) : Type 0 where
  pub lines : List Line
  pub follow : AllFollow parts k bytes lines
  pub last : EndsEmpty lines
