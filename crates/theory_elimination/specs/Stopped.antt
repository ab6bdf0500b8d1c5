-- A course is cut, or else no event stops it: by its events, and for each of its stages.
use Rattle.std.specs.Prelude.{◌≡◌, refl, Bool, true, false, ◌&&◌, ◌⊎◌, length}
use Rattle.std.proofs.Math.Path.{subst⁻¹}
use Rattle.std.proofs.Math.Logic.{inl, inr, ⊎_elim}
use mathlib.Core.List.{List, [], ◌∷◌}
use Rattle.std.proofs.Math.Option.{none}
use Rattle.rules.specs.Lines.{Variable}
use Rattle.rules.specs.Steps.{Step}
use Rattle.rules.specs.Elimination.{Stops, unlimited, empty, overflow, out_of_steps, State, running, ended, covered, Pair, load, try_all}
use Rattle.theory_lists.specs.All.{All}
use Rattle.theory_elimination.specs.Events.{Event, load_events, try_events}
use Rattle.theory_elimination.specs.Cut.{stop_of, stop_at, ended_at, cut, load_cut, try-cut}
use Rattle.theory_elimination.specs.WithinLimits.{Unstopped}

-- ---- no event stops it
abbrev pub Passes : Stops → Event → Type 0
Passes stops e = stop_at stops e ≡ none

pub cut-passes : (stops : Stops) (es : List Event) (state : State) → All (Passes stops) es → cut stops es state ≡ state
unfolding cut ended_at
cut-passes stops [] state h = refl
cut-passes stops (e ∷ es) state h = rw h.0 (cut-passes stops es state h.1)

-- ---- some event stops it
abbrev pub Stopped : State → Type 0
Stopped (running steps n) = ⊥
Stopped (ended empty steps n) = ⊥
Stopped (ended overflow steps n) = Unit {0}
Stopped (ended out_of_steps steps n) = Unit {0}

pub stopped-clash : (state : State) → Unstopped state → Stopped state → ⊥
stopped-clash (running steps n) h k = k
stopped-clash (ended empty steps n) h k = k
stopped-clash (ended overflow steps n) h k = h
stopped-clash (ended out_of_steps steps n) h k = h

stop-or : (w subsumed many : Bool) → (stop_of w subsumed many ≡ none)
    ⊎ ((e : Event) (state : State) → Stopped (ended_at (stop_of w subsumed many) e state))
unfolding stop_of ended_at
stop-or true subsumed many = inr (λ e state. tt)
stop-or false true many = inl refl
stop-or false false true = inr (λ e state. tt)
stop-or false false false = inl refl

module _ (stops : Stops) where
  at-or : (e : Event) → Passes stops e ⊎ ((state : State) → Stopped (ended_at (stop_at stops e) e state))
  unfolding stop_at
  at-or e = ⊎_elim (λ h. inl h) (λ f. inr (f e))
      (stop-or (e.is_resolvent && stops.at_line e.line) (covered e.line e.steps) (stops.at_steps (length e.steps)))

  pass_on : (e : Event) (state : State) → Passes stops e → Stopped state → Stopped (ended_at (stop_at stops e) e state)
  unfolding ended_at
  pass_on e state h k = rw h k

  pub cut_or : (es : List Event) (state : State) → All (Passes stops) es ⊎ Stopped (cut stops es state)
  unfolding cut
  cut_or [] state = inl tt
  cut_or (e ∷ es) state = ⊎_elim (λ h. ⊎_elim (λ k. inl (h, k)) (λ k. inr (pass_on e (cut stops es state) h k)) (cut_or es state))
      (λ f. inr (f (cut stops es state))) (at-or e)

  -- ---- a stage is that of the elimination without limits, or the elimination has ended in it
  stage-or : (es : List Event) (state : State) → (cut stops es state ≡ state) ⊎ Stopped (cut stops es state)
  stage-or es state = ⊎_elim (λ h. inl (cut-passes stops es state h)) (λ k. inr k) (cut_or es state)

  pub load-or : (ss : List Step) (state : State) → (load stops ss state ≡ load unlimited ss state) ⊎ Stopped (load stops ss state)
  load-or ss state = subst⁻¹ (λ (s : State). (s ≡ load unlimited ss state) ⊎ Stopped s) (load_cut stops ss state)
      (stage-or (load_events ss state) (load unlimited ss state))

  pub try-or : (v : Variable) (ps : List Pair) (state : State)
      → (try_all stops v ps state ≡ try_all unlimited v ps state) ⊎ Stopped (try_all stops v ps state)
  try-or v ps state = subst⁻¹ (λ (s : State). (s ≡ try_all unlimited v ps state) ⊎ Stopped s) (try-cut stops v ps state)
      (stage-or (try_events v ps state) (try_all unlimited v ps state))
