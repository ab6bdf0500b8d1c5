-- What each end of an elimination concludes.
use Rattle.std.specs.Prelude.{◌≡◌, List, map, ℕ, length}
use Rattle.std.proofs.Math.Path.{refl}
use Rattle.std.proofs.Math.Option.{Option, none, some}
use Rattle.rules_types.specs.declared.answers.Refusal.TheVariants as refusal
use Rattle.rules_types.specs.declared.answers.Verdict.TheVariants.{Satisfiable, Unsatisfiable, Unwritten}
use Rattle.rules.specs.Problem.{Problem}
use Rattle.rules.specs.Steps.{Step}
use Rattle.rules.specs.Elimination.{State, running, ended, empty, overflow, out_of_steps, order_of}
use Rattle.rules.specs.Needs.{steps_of, pairs_of}
use Rattle.rules.specs.Values.{walk}
use Rattle.rules.specs.Model.{is_open, written}
use Rattle.rules.specs.Calls.{Outcome, stopped, decided, no_model, concluded}
use Rattle.placing.specs.declared.point.Progress.{Progress}
use Rattle.placing.specs.declared.point.Progress.TheVariants.{Running, Empty, Overflow, OutOfSteps}
use Rattle.placing.specs.Point.{progress_of}

module _ (p : Problem) where
  -- by the model of the walk
  abbrev pub finished : State → Option (List ℕ) → Outcome
  finished s none = decided Unwritten (steps_of s) (pairs_of s) no_model
  finished s (some bytes) = decided Satisfiable (steps_of s) (pairs_of s) bytes

  abbrev pub model_of : List Step → Option (List ℕ)
  model_of steps = written p.booleans p.rationals (is_open p) (walk (order_of p) (map (λ s. s.line) steps))

  abbrev pub Concludes : State → Progress → Type 0
  Concludes s Overflow = concluded p s ≡ stopped refusal.Overflow (length (steps_of s)) (pairs_of s)
  Concludes s OutOfSteps = concluded p s ≡ stopped refusal.OutOfSteps (length (steps_of s)) (pairs_of s)
  Concludes s Empty = concluded p s ≡ decided Unsatisfiable (steps_of s) (pairs_of s) no_model
  Concludes s Running = (o : Option (List ℕ)) → model_of (steps_of s) ≡ o → concluded p s ≡ finished s o

  pub concludes : (s : State) → Concludes s (progress_of s)
  unfolding concluded progress_of steps_of pairs_of
  concludes (running steps n) = by
    where
      by : (o : Option (List ℕ)) → model_of steps ≡ o → concluded p (running steps n) ≡ finished (running steps n) o
      by none e = rw (e, concluded)
      by (some bytes) e = rw (e, concluded)
  concludes (ended empty steps n) = refl
  concludes (ended overflow steps n) = refl
  concludes (ended out_of_steps steps n) = refl
