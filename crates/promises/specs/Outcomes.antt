-- What solving comes to for a problem read without fault, by the state in which its elimination ends.
use Rattle.std.proofs.Math.Path.{◌≡◌, sym, ap}
use Rattle.std.specs.Prelude.{refl, ◌↔◌, List, map, ℕ}
use Rattle.std.proofs.Common.{◌∙◌, subst, ⊎_elim, arith}
use Rattle.std.proofs.Math.Logic.{inl, inr}
use Rattle.std.proofs.Math.Option.{Option, none, some}
use Rattle.rules_types.specs.declared.answers.Answer.{Answer}
use Rattle.rules_types.specs.declared.answers.Verdict.TheVariants.{Satisfiable, Unsatisfiable, Unwritten}
use Rattle.rules_types.specs.declared.limits.Limits.{Limits}
use Rattle.rules.specs.Problem.{Problem}
use Rattle.rules.specs.Steps.{Step}
use Rattle.rules.specs.Elimination.{limited, State, running, ended, empty, overflow, out_of_steps, order_of, elimination}
use Rattle.rules.specs.Needs.{steps_of, Fits}
use Rattle.rules.specs.Values.{walk}
use Rattle.rules.specs.Model.{is_open, written}
use Rattle.rules.specs.Calls.{Outcome, decided, no_model, concluded, said}
use Rattle.theory_splitting.specs.WellFormed.{WellFormed}
use Rattle.theory_elimination.specs.Limits.{fits-same, fits-or-stopped, fits-unstopped}
use Rattle.theory_elimination.specs.Stopped.{Stopped}
use Rattle.promises.specs.Satisfied.{chosen}
use Rattle.promises.specs.Decided.{NoAssignment, running-satisfies, empty-none}
use Rattle.promises.specs.Words.{SomeAssignment, model_of, walk_of, GivesModel, Comes, LimitMet}

-- ---- where the elimination runs to its end, by the model of its walk
abbrev pub finished : List Step → ℕ → Option (List ℕ) → Outcome
finished steps n none = decided Unwritten steps n no_model
finished steps n (some bytes) = decided Satisfiable steps n bytes

abbrev pub walk_model : Problem → List Step → Option (List ℕ)
walk_model p steps = written p.booleans p.rationals (is_open p) (walk (order_of p) (map (λ s. s.line) steps))

pub concluded-running : (p : Problem) (steps : List Step) (n : ℕ) → concluded p (running steps n) ≡ finished steps n (walk_model p steps)
unfolding concluded
concluded-running p steps n = by (walk_model p steps)
  where
    by : (o : Option (List ℕ))
        → elim o [ none ↦ decided Unwritten steps n no_model | some bytes ↦ decided Satisfiable steps n bytes ] ≡ finished steps n o
    by none = refl
    by (some bytes) = refl

abbrev pub answer_of : Outcome → Answer
answer_of o = (said o).answer

pub finished-unsatisfiable : (steps : List Step) (n : ℕ) (o : Option (List ℕ)) → Comes Unsatisfiable (answer_of (finished steps n o)) → ⊥
unfolding said
finished-unsatisfiable steps n none h = let z : ◌≡◌ {A = ℕ} 0 1 = cc in omega arith
finished-unsatisfiable steps n (some bytes) h = let z : ◌≡◌ {A = ℕ} 0 1 = cc in omega arith

pub finished-satisfiable : (steps : List Step) (n : ℕ) (o : Option (List ℕ)) → Comes Satisfiable (answer_of (finished steps n o))
    ↔ ((bytes : List ℕ) × (o ≡ some bytes))
unfolding said
finished-satisfiable steps n none =
    (λ h. absurd (let z : ◌≡◌ {A = ℕ} 0 1 = cc in omega arith), λ h. let e = h.1 in absurd (let z : ◌≡◌ {A = ℕ} 0 1 = cc in omega arith))
finished-satisfiable steps n (some bytes) = (λ h. (bytes, refl), λ h. refl)

finished-unwritten : (steps : List Step) (n : ℕ) (o : Option (List ℕ)) → Comes Unwritten (answer_of (finished steps n o)) ↔ (o ≡ none)
unfolding said
finished-unwritten steps n none = (λ h. refl, λ h. refl)
finished-unwritten steps n (some bytes) =
    (λ h. absurd (let z : ◌≡◌ {A = ℕ} 0 1 = cc in omega arith), λ e. absurd (let z : ◌≡◌ {A = ℕ} 0 1 = cc in omega arith))

pub finished-not-stopped : (steps : List Step) (n : ℕ) (o : Option (List ℕ)) → LimitMet (answer_of (finished steps n o)) → ⊥
unfolding said
finished-not-stopped steps n none (inl h) = h
finished-not-stopped steps n none (inr h) = h
finished-not-stopped steps n (some bytes) (inl h) = h
finished-not-stopped steps n (some bytes) (inr h) = h

-- an elimination that runs to its end fits the limits
pub unstopped-fits : (limits : Limits) (p : Problem) (steps : List Step) (n : ℕ)
    → elimination (limited limits) p ≡ running steps n → Fits limits p
unstopped-fits limits p steps n e = ⊎_elim (λ f. f) (λ h. absurd (subst Stopped e h)) (fits-or-stopped limits p)

-- ---- the answer, by the state in which the limited elimination ends
module _ (limits : Limits) (p : Problem) (w : WellFormed p) where
  abbrev answer : State → Answer
  answer s = answer_of (concluded p s)

  -- where it fits, its lines are those of the elimination without limits
  pub walk_is : (steps : List Step) (n : ℕ) → elimination (limited limits) p ≡ running steps n → Fits limits p
      → walk_of p ≡ walk (order_of p) (map (λ s. s.line) steps)
  unfolding walk_of steps_of
  walk_is steps n e f = ap (λ (s : State). walk (order_of p) (map (λ x. x.line) (steps_of s))) (sym (fits-same limits p f) ∙ e)

  pub model_is : (steps : List Step) (n : ℕ) → elimination (limited limits) p ≡ running steps n → Fits limits p
      → model_of p ≡ walk_model p steps
  unfolding model_of
  model_is steps n e f = ap (written p.booleans p.rationals (is_open p)) (walk_is steps n e f)

  unsatisfiable-by : (s : State) → elimination (limited limits) p ≡ s → Fits limits p → Comes Unsatisfiable (answer s) ↔ NoAssignment p
  unfolding concluded said
  unsatisfiable-by (running steps n) e f = (
    λ h. absurd (finished-unsatisfiable steps n (walk_model p steps) (rw (concluded-running p steps n) at h)),
    λ h. absurd (h (chosen p steps) (running-satisfies p w (limited limits) steps n e)),
  )
  unsatisfiable-by (ended empty steps n) e f = (λ h. empty-none p w (limited limits) steps n e, λ h. refl)
  unsatisfiable-by (ended overflow steps n) e f = absurd (fits-unstopped limits p f (rw e tt))
  unsatisfiable-by (ended out_of_steps steps n) e f = absurd (fits-unstopped limits p f (rw e tt))

  satisfiable-by : (s : State) → elimination (limited limits) p ≡ s → Fits limits p → Comes Satisfiable (answer s)
      ↔ (SomeAssignment p × GivesModel p)
  unfolding concluded said
  satisfiable-by (running steps n) e f =
      let r = finished-satisfiable steps n (walk_model p steps) in
      let q = model_is steps n e f in (
        λ h. (
          (chosen p steps, running-satisfies p w (limited limits) steps n e),
          (let k = r.0 (rw (concluded-running p steps n) at h) in (k.0, q ∙ k.1)),
        ),
        λ h. rw (concluded-running p steps n) (r.1 (h.1.0, sym q ∙ h.1.1)),
      )
  satisfiable-by (ended empty steps n) e f = (
    λ h. absurd (let z : ◌≡◌ {A = ℕ} 0 1 = cc in omega arith),
    λ h. absurd (empty-none p w (limited limits) steps n e h.0.0 h.0.1),
  )
  satisfiable-by (ended overflow steps n) e f = absurd (fits-unstopped limits p f (rw e tt))
  satisfiable-by (ended out_of_steps steps n) e f = absurd (fits-unstopped limits p f (rw e tt))

  unwritten-by : (s : State) → elimination (limited limits) p ≡ s → Fits limits p → Comes Unwritten (answer s)
      ↔ (SomeAssignment p × (model_of p ≡ none))
  unfolding concluded said
  unwritten-by (running steps n) e f =
      let r = finished-unwritten steps n (walk_model p steps) in
      let q = model_is steps n e f in (
        λ h. ((chosen p steps, running-satisfies p w (limited limits) steps n e), q ∙ r.0 (rw (concluded-running p steps n) at h)),
        λ h. rw (concluded-running p steps n) (r.1 (sym q ∙ h.1)),
      )
  unwritten-by (ended empty steps n) e f = (
    λ h. absurd (let z : ◌≡◌ {A = ℕ} 0 1 = cc in omega arith),
    λ h. absurd (empty-none p w (limited limits) steps n e h.0.0 h.0.1),
  )
  unwritten-by (ended overflow steps n) e f = absurd (fits-unstopped limits p f (rw e tt))
  unwritten-by (ended out_of_steps steps n) e f = absurd (fits-unstopped limits p f (rw e tt))

  -- ---- otherwise, and only otherwise
  stopped_by : (s : State) → LimitMet (answer s) ↔ Stopped s
  unfolding concluded said
  stopped_by (running steps n) =
      (λ h. absurd (finished-not-stopped steps n (walk_model p steps) (rw (concluded-running p steps n) at h)), λ h. absurd h)
  stopped_by (ended empty steps n) = (⊎_elim (λ h. absurd h) (λ h. absurd h), λ h. absurd h)
  stopped_by (ended overflow steps n) = (λ h. tt, λ h. inl refl)
  stopped_by (ended out_of_steps steps n) = (λ h. tt, λ h. inr refl)

  pub otherwise : LimitMet (answer (elimination (limited limits) p)) ↔ (Fits limits p → ⊥)
  otherwise =
      let r = stopped_by (elimination (limited limits) p) in
      (λ h f. fits-unstopped limits p f (r.0 h), λ n. ⊎_elim (λ f. absurd (n f)) r.1 (fits-or-stopped limits p))

  pub unsatisfiable-exactly : Fits limits p → Comes Unsatisfiable (answer (elimination (limited limits) p)) ↔ NoAssignment p
  unsatisfiable-exactly = unsatisfiable-by (elimination (limited limits) p) refl

  pub satisfiable-exactly : Fits limits p → Comes Satisfiable (answer (elimination (limited limits) p)) ↔ (SomeAssignment p × GivesModel p)
  satisfiable-exactly = satisfiable-by (elimination (limited limits) p) refl

  pub unwritten-exactly : Fits limits p → Comes Unwritten (answer (elimination (limited limits) p))
      ↔ (SomeAssignment p × (model_of p ≡ none))
  unwritten-exactly = unwritten-by (elimination (limited limits) p) refl
