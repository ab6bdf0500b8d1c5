-- Every stage of an elimination keeps the lines that it starts with, in front.
use Rattle.std.specs.Prelude.{◌≡◌, Bool, ℕ, suc, ◌≤◌, length}
use Rattle.std.proofs.Math.Path.{refl}
use Rattle.std.proofs.Common.{sym, ◌∙◌, arith, length-append}
use Rattle.std.proofs.Math.Bool.{false}
use mathlib.Core.List.{List, [], ◌∷◌, ◌++◌, append_assoc, append-nil}
use Rattle.std.proofs.Math.Option.{Option, none, some}
use Rattle.rules.specs.Lines.{Line, Variable}
use Rattle.rules.specs.Resolve.{resolve}
use Rattle.rules.specs.Steps.{Step}
use Rattle.rules.specs.Elimination.{Stops, State, running, ended, Pair, round_pairs, add, load, tried, try_all, rounds}
use Rattle.rules.specs.Needs.{steps_of}
use Rattle.theory_elimination.specs.States.{add-cases}
use Rattle.theory_elimination.specs.Induction.{resolvent_of}

pub record Prefix (steps : List Step) (state : State) : Type 0 where
  pub more : List Step
  pub is : steps_of state ≡ steps ++ more

same : (steps : List Step) (state : State) → steps_of state ≡ steps → Prefix steps state
same steps state e = record { more = []; is = e ∙ sym (append-nil steps) }

-- so the proof only grows
pub prefix-longer : {steps : List Step} {state : State} → Prefix steps state → length steps ≤ length (steps_of state)
prefix-longer p = rw (p.is, length-append) (omega arith)

pub prefix_trans : (steps : List Step) (mid final : State) → Prefix steps mid → Prefix (steps_of mid) final → Prefix steps final
prefix_trans steps mid final h k = record { more = h.more ++ k.more; is = cc (append_assoc steps h.more k.more) }

module _ (stops : Stops) where
  pub add-prefix : (w : Bool) (s : Step) (steps : List Step) (n : ℕ) → Prefix steps (add stops w s steps n)
  unfolding steps_of
  add-prefix w s steps n =
      add-cases (Prefix steps) s steps n stops w (λ w. same steps _ refl) (λ k. same steps _ refl) (λ m. same steps _ refl)
      (λ m e. record { more = s ∷ []; is = refl }) (λ m e. record { more = s ∷ []; is = refl })

  tried-prefix : (v : Variable) (p : Pair) (m : Option Line) (steps : List Step) (n : ℕ) → Prefix steps (tried stops v p m steps n)
  unfolding tried steps_of
  tried-prefix v p none steps n = same steps _ refl
  tried-prefix v p (some l) steps n = add-prefix (stops.at_line l) (resolvent_of v p l) steps n

  pub load-prefix : (ss : List Step) (state : State) → Prefix (steps_of state) (load stops ss state)
  unfolding load steps_of
  load-prefix [] state = same (steps_of state) state refl
  load-prefix (s ∷ ss) (ended e steps n) = same steps (ended e steps n) refl
  load-prefix (s ∷ ss) (running steps n) =
      prefix_trans steps (add stops false s steps n) _ (add-prefix false s steps n) (load-prefix ss (add stops false s steps n))

  pub try-prefix : (v : Variable) (ps : List Pair) (state : State) → Prefix (steps_of state) (try_all stops v ps state)
  unfolding try_all steps_of
  try-prefix v [] state = same (steps_of state) state refl
  try-prefix v (p ∷ ps) (ended e steps n) = same steps (ended e steps n) refl
  try-prefix v (p ∷ ps) (running steps n) =
      let next = tried stops v p (resolve v p.upper.line p.lower.line) steps (suc n) in
      prefix_trans steps next _ (tried-prefix v p (resolve v p.upper.line p.lower.line) steps (suc n)) (try-prefix v ps next)

  pub rounds-prefix : (variables : List Variable) (t : ℕ) (vs : List Variable) (state : State)
      → Prefix (steps_of state) (rounds stops variables t vs state)
  unfolding rounds steps_of
  rounds-prefix variables t [] state = same (steps_of state) state refl
  rounds-prefix variables t (v ∷ vs) (ended e steps n) = same steps (ended e steps n) refl
  rounds-prefix variables t (v ∷ vs) (running steps n) =
      let next = try_all stops v (round_pairs variables v t steps) (running steps n) in
      prefix_trans steps next _ (try-prefix v (round_pairs variables v t steps) (running steps n)) (rounds-prefix variables (suc t) vs next)
