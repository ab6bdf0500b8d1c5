-- An elimination under any stops is the elimination without limits, cut at the first event at which one of them stops it.
use Rattle.std.specs.Prelude.{◌≡◌, Bool, true, ◌&&◌, ℕ, suc, length}
use Rattle.std.proofs.Math.Path.{refl, sym, ap}
use Rattle.std.proofs.Common.{◌∙◌}
use Rattle.std.proofs.Math.Bool.{false}
use mathlib.Core.List.{List, [], ◌∷◌, ◌++◌}
use Rattle.std.proofs.Math.Option.{Option, none, some}
use Rattle.rules.specs.Lines.{Line, Variable, is_empty}
use Rattle.rules.specs.Resolve.{resolve}
use Rattle.rules.specs.Steps.{Step, resolved}
use Rattle.rules.specs.Elimination.{Stops, unlimited, End, overflow, out_of_steps, State, running, ended, placed, covered, Pair}
use Rattle.rules.specs.Elimination.{round_pairs}
use Rattle.rules.specs.Elimination.{add, load, tried, try_all, rounds, eliminate}
use Rattle.theory_elimination.specs.States.{load-ended, try-ended, rounds-ended}
use Rattle.theory_elimination.specs.Events.{Event, load_events, resolvent_events, try_events, round_events, events}

-- the first of: overflowing, dropped (which stops nothing), one too many
unfoldable pub stop_of : Bool → Bool → Bool → Option End
stop_of true subsumed many = some overflow
stop_of false true many = none
stop_of false false true = some out_of_steps
stop_of false false false = none

unfoldable pub stop_at : Stops → Event → Option End
stop_at stops e = stop_of (e.is_resolvent && stops.at_line e.line) (covered e.line e.steps) (stops.at_steps (length e.steps))

unfoldable pub ended_at : Option End → Event → State → State
ended_at none e state = state
ended_at (some end) e state = ended end e.steps e.pairs

-- the elimination ended at the first event that stops it, or else the state that it comes to
unfoldable pub cut : Stops → List Event → State → State
cut stops [] state = state
cut stops (e ∷ es) state = ended_at (stop_at stops e) e (cut stops es state)

pub cut-append : (stops : Stops) (es fs : List Event) (state : State) → cut stops (es ++ fs) state ≡ cut stops es (cut stops fs state)
unfolding cut
cut-append stops [] fs state = refl
cut-append stops (e ∷ es) fs state = ap (ended_at (stop_at stops e) e) (cut-append stops es fs state)

-- a stage of the elimination that keeps an end may be run before the cut
through-end : (stage : State → State) → ((e : End) (steps : List Step) (n : ℕ) → stage (ended e steps n) ≡ ended e steps n)
    → (o : Option End) (e : Event) (state after : State) → stage state ≡ after → stage (ended_at o e state) ≡ ended_at o e after
unfolding ended_at
through-end stage keeps none e state after h = h
through-end stage keeps (some end) e state after h = keeps end e.steps e.pairs

through : (stops : Stops) (stage : State → State) → ((e : End) (steps : List Step) (n : ℕ) → stage (ended e steps n) ≡ ended e steps n)
    → (es : List Event) (state : State) → stage (cut stops es state) ≡ cut stops es (stage state)
unfolding cut
through stops stage keeps [] state = refl
through stops stage keeps (e ∷ es) state =
    through-end stage keeps (stop_at stops e) e (cut stops es state) (cut stops es (stage state)) (through stops stage keeps es state)

-- ---- one line
placed-cut : (w subsumed many blank : Bool) (s : Step) (steps : List Step) (n : ℕ) (e : Event) → e.steps ≡ steps → e.pairs ≡ n
    → placed w subsumed many blank s steps n ≡ ended_at (stop_of w subsumed many) e (placed false subsumed false blank s steps n)
unfolding placed stop_of ended_at
placed-cut true subsumed many blank s steps n e p q = λ i. ended overflow (sym p i) (sym q i)
placed-cut false true many blank s steps n e p q = refl
placed-cut false false true blank s steps n e p q = λ i. ended out_of_steps (sym p i) (sym q i)
placed-cut false false false true s steps n e p q = refl
placed-cut false false false false s steps n e p q = refl

module _ (stops : Stops) where
  part_cut : (s : Step) (steps : List Step) (n : ℕ) → add stops false s steps n
      ≡ cut stops (record { is_resolvent = false; line = s.line; steps = steps; pairs = n } ∷ []) (add unlimited false s steps n)
  unfolding add unlimited cut stop_at
  part_cut s steps n = placed-cut false (covered s.line steps) (stops.at_steps (length steps)) (is_empty s.line) s steps n _ refl refl

  tried-cut : (v : Variable) (p : Pair) (m : Option Line) (steps : List Step) (n : ℕ)
      → tried stops v p m steps n ≡ cut stops (resolvent_events m steps n) (tried unlimited v p m steps n)
  unfolding tried resolvent_events cut add unlimited stop_at
  tried-cut v p none steps n = refl
  tried-cut v p (some l) steps n =
      placed-cut (stops.at_line l) (covered l steps) (stops.at_steps (length steps)) (is_empty l)
      (record { origin = resolved v p.upper.number p.lower.number; line = l }) steps n _ refl refl

  -- ---- the stages
  pub load_cut : (ss : List Step) (state : State) → load stops ss state ≡ cut stops (load_events ss state) (load unlimited ss state)
  unfolding load load_events cut
  load_cut [] state = refl
  load_cut (s ∷ ss) (ended e steps n) = refl
  load_cut (s ∷ ss) (running steps n) =
      ap (load stops ss) (part_cut s steps n) ∙ through stops (load stops ss) (λ e steps n. load-ended stops e steps n ss)
      (record { is_resolvent = false; line = s.line; steps = steps; pairs = n } ∷ []) (add unlimited false s steps n)
      ∙ ap (cut stops (record { is_resolvent = false; line = s.line; steps = steps; pairs = n } ∷ []))
      (load_cut ss (add unlimited false s steps n))

  pub try-cut : (v : Variable) (ps : List Pair) (state : State)
      → try_all stops v ps state ≡ cut stops (try_events v ps state) (try_all unlimited v ps state)
  unfolding try_all try_events cut
  try-cut v [] state = refl
  try-cut v (p ∷ ps) (ended e steps n) = refl
  try-cut v (p ∷ ps) (running steps n) =
      let m = resolve v p.upper.line p.lower.line in
      let es = resolvent_events m steps (suc n) in
      let next = tried unlimited v p m steps (suc n) in
      ap (try_all stops v ps) (tried-cut v p m steps (suc n))
      ∙ through stops (try_all stops v ps) (λ e steps n. try-ended stops e steps n v ps) es next
      ∙ ap (cut stops es) (try-cut v ps next) ∙ sym (cut-append stops es (try_events v ps next) (try_all unlimited v ps next))

  rounds-cut : (variables : List Variable) (t : ℕ) (vs : List Variable) (state : State)
      → rounds stops variables t vs state ≡ cut stops (round_events variables t vs state) (rounds unlimited variables t vs state)
  unfolding rounds round_events cut
  rounds-cut variables t [] state = refl
  rounds-cut variables t (v ∷ vs) (ended e steps n) = refl
  rounds-cut variables t (v ∷ vs) (running steps n) =
      let ps = round_pairs variables v t steps in
      let es = try_events v ps (running steps n) in
      let next = try_all unlimited v ps (running steps n) in
      ap (rounds stops variables (suc t) vs) (try-cut v ps (running steps n))
      ∙ through stops (rounds stops variables (suc t) vs) (λ e steps n. rounds-ended stops e steps n variables (suc t) vs) es next
      ∙ ap (cut stops es) (rounds-cut variables (suc t) vs next)
      ∙ sym (cut-append stops es (round_events variables (suc t) vs next) (rounds unlimited variables (suc t) vs next))

  -- the theorem
  pub eliminate-cut : (variables : List Variable) (parts : List Step)
      → eliminate stops variables parts ≡ cut stops (events variables parts) (eliminate unlimited variables parts)
  unfolding eliminate events
  eliminate-cut variables parts =
      let es = load_events parts (running [] 0) in
      let next = load unlimited parts (running [] 0) in
      ap (rounds stops variables 0 variables) (load_cut parts (running [] 0))
      ∙ through stops (rounds stops variables 0 variables) (λ e steps n. rounds-ended stops e steps n variables 0 variables) es next
      ∙ ap (cut stops es) (rounds-cut variables 0 variables next)
      ∙ sym (cut-append stops es (round_events variables 0 variables next) (rounds unlimited variables 0 variables next))
