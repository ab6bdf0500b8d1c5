-- What the functions for the ends of an elimination say and leave.
use Rattle.std.specs.Prelude.{◌≡◌, Bool, List, ◌++◌, ℕ, drop, replicate}
use Rattle.std.proofs.Math.Option.{Option, none, some}
use Rattle.rules_types.specs.declared.answers.Refusal.{Refusal}
use Rattle.rules_types.specs.declared.answers.Verdict.{Verdict}
use Rattle.rules_types.specs.declared.answers.Verdict.TheVariants.{Satisfiable, Unwritten}
use Rattle.rules_types.specs.declared.answers.Answer.TheVariants.{Decided, Refused}
use Rattle.rules_types.specs.declared.answers.Solved.{Solved}
use Rattle.rules_types.specs.Limits as limit
use Rattle.rules.specs.Lines.{Variable}
use Rattle.rules.specs.Values.{walk}
use Rattle.rules.specs.Model.{written}
use Rattle.fields.specs.Field.{stored}
use Rattle.steps.specs.Lines.{lines_in}
use Rattle.placing.specs.declared.point.Point.{Point}

abbrev pub refused_by : Refusal → Point → Solved
refused_by f c = record { answer = Refused f c.steps; pairs = c.pairs }

abbrev pub decided_by : Verdict → Point → Solved
decided_by v c = record { answer = Decided v c.steps; pairs = c.pairs }

-- with zeros for the model
abbrev pub zero_model : List ℕ → List ℕ
zero_model model = stored 0 (replicate limit.model_bytes 0) model

-- the walk's model, or none
pub record WithModel (c : Point) (bytes model after : List ℕ) (s : Solved) : Type 0 where
  pub said : s ≡ decided_by Satisfiable c
  pub left : after ≡ bytes ++ drop limit.model_bytes model

pub record WithoutModel (c : Point) (model after : List ℕ) (s : Solved) : Type 0 where
  pub said : s ≡ decided_by Unwritten c
  pub left : after ≡ zero_model model

abbrev pub WrittenBy : Option (List ℕ) → Point → List ℕ → List ℕ → Solved → Type 0
WrittenBy none c model after s = WithoutModel c model after s
WrittenBy (some bytes) c model after s = WithModel c bytes model after s

abbrev pub Written : ℕ → ℕ → (ℕ → Bool) → List Variable → Point → List ℕ → List ℕ → List ℕ → Solved → Type 0
Written b r opens variables c proof model after s =
    WrittenBy (written b r opens (walk variables (lines_in proof c.steps))) c model after s
