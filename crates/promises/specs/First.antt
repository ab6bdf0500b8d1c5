-- Which of "wide" and "full" comes: the one of the first event that stops the elimination.
use Rattle.std.proofs.Math.Path.{◌≡◌}
use Rattle.std.specs.Prelude.{refl, Bool, true, false, ◌↔◌, List, [], ◌∷◌, ℕ}
use Rattle.std.proofs.Common.{inl, inr, arith}
use Rattle.std.proofs.Math.Option.{Option, none, some}
use Rattle.rules_types.specs.declared.answers.Refusal.TheVariants as refusal
use Rattle.rules_types.specs.declared.limits.Limits.{Limits}
use Rattle.rules.specs.Problem.{Problem}
use Rattle.rules.specs.Elimination.{Stops, limited, unlimited, End, empty, overflow, out_of_steps, State, running, ended, order_of}
use Rattle.rules.specs.Elimination.{loadable_of}
use Rattle.rules.specs.Elimination.{elimination}
use Rattle.rules.specs.Calls.{concluded, said}
use Rattle.theory_elimination.specs.Events.{Event, events}
use Rattle.theory_elimination.specs.Cut.{stop_of, stop_at, ended_at, cut}
use Rattle.theory_elimination.specs.WithinLimits.{Unstopped}
use Rattle.promises.specs.Words.{IsRefused, first_stop}
use Rattle.promises.specs.Outcomes.{walk_model, concluded-running, answer_of, finished-not-stopped}
use Rattle.theory_elimination.specs.OfProblem.{elimination-unstopped, elimination-cut}

-- how an elimination has ended, and what stopped it
abbrev EndOf : State → Option End → Type 0
EndOf (running steps n) o = o ≡ none
EndOf (ended empty steps n) o = o ≡ none
EndOf (ended overflow steps n) o = o ≡ some overflow
EndOf (ended out_of_steps steps n) o = o ≡ some out_of_steps

unstopped-end : (s : State) → Unstopped s → EndOf s none
unstopped-end (running steps n) u = refl
unstopped-end (ended empty steps n) u = refl
unstopped-end (ended overflow steps n) u = absurd u
unstopped-end (ended out_of_steps steps n) u = absurd u

at-end : (w known many : Bool) (e : Event) (s : State) (o : Option End) → EndOf s o
    → EndOf (ended_at (stop_of w known many) e s) (elim (stop_of w known many) [ none ↦ o | some end ↦ some end ])
unfolding stop_of ended_at
at-end true known many e s o h = refl
at-end false true many e s o h = h
at-end false false true e s o h = refl
at-end false false false e s o h = h

cut-end : (stops : Stops) (es : List Event) (s : State) → Unstopped s → EndOf (cut stops es s) (first_stop stops es)
unfolding cut first_stop stop_at
cut-end stops [] s u = unstopped-end s u
cut-end stops (e ∷ es) s u = at-end _ _ _ e (cut stops es s) (first_stop stops es) (cut-end stops es s u)

module _ (p : Problem) where
  overflow-by : (s : State) (o : Option End) → EndOf s o → IsRefused refusal.Overflow (answer_of (concluded p s)) ↔ (o ≡ some overflow)
  unfolding concluded said
  overflow-by (running steps n) o h = (
    λ k. absurd (finished-not-stopped steps n (walk_model p steps)
        (inl (rw (concluded-running p steps n) at k))),
    λ k. absurd (let z : ◌≡◌ {A = ℕ} 0 1 = cc in omega arith),
  )
  overflow-by (ended empty steps n) o h = (λ k. absurd k, λ k. absurd (let z : ◌≡◌ {A = ℕ} 0 1 = cc in omega arith))
  overflow-by (ended overflow steps n) o h = (λ k. h, λ k. refl)
  overflow-by (ended out_of_steps steps n) o h =
      (λ k. absurd (let z : ◌≡◌ {A = ℕ} 0 1 = cc in omega arith), λ k. absurd (let z : ◌≡◌ {A = ℕ} 0 1 = cc in omega arith))

  out-of-steps-by : (s : State) (o : Option End) → EndOf s o
      → IsRefused refusal.OutOfSteps (answer_of (concluded p s)) ↔ (o ≡ some out_of_steps)
  unfolding concluded said
  out-of-steps-by (running steps n) o h = (
    λ k. absurd (finished-not-stopped steps n (walk_model p steps)
        (inr (rw (concluded-running p steps n) at k))),
    λ k. absurd (let z : ◌≡◌ {A = ℕ} 0 1 = cc in omega arith),
  )
  out-of-steps-by (ended empty steps n) o h = (λ k. absurd k, λ k. absurd (let z : ◌≡◌ {A = ℕ} 0 1 = cc in omega arith))
  out-of-steps-by (ended overflow steps n) o h =
      (λ k. absurd (let z : ◌≡◌ {A = ℕ} 0 1 = cc in omega arith), λ k. absurd (let z : ◌≡◌ {A = ℕ} 0 1 = cc in omega arith))
  out-of-steps-by (ended out_of_steps steps n) o h = (λ k. h, λ k. refl)

  module _ (limits : Limits) where
    ends : EndOf (elimination (limited limits) p) (first_stop (limited limits) (events (order_of p) (loadable_of p)))
    ends = rw (elimination-cut (limited limits) p)
        (cut-end (limited limits) (events (order_of p) (loadable_of p)) (elimination unlimited p) (elimination-unstopped p))

    pub overflow-first : IsRefused refusal.Overflow (answer_of (concluded p (elimination (limited limits) p)))
        ↔ (first_stop (limited limits) (events (order_of p) (loadable_of p)) ≡ some overflow)
    overflow-first = overflow-by (elimination (limited limits) p) _ ends

    pub out-of-steps-first : IsRefused refusal.OutOfSteps (answer_of (concluded p (elimination (limited limits) p)))
        ↔ (first_stop (limited limits) (events (order_of p) (loadable_of p)) ≡ some out_of_steps)
    out-of-steps-first = out-of-steps-by (elimination (limited limits) p) _ ends
