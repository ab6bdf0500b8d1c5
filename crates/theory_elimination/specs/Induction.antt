-- Induction along an elimination, under any stops: what holds at the start and is kept by each part and each pair holds at its end.
use Rattle.std.specs.Prelude.{◌≡◌, ℕ, suc, drop}
use Rattle.std.proofs.Math.Path.{refl}
use Rattle.std.proofs.Math.Bool.{false}
use Rattle.std.proofs.Common.{inl, inr}
use mathlib.Core.List.{List, [], ◌∷◌, ◌++◌}
use Rattle.std.proofs.Math.Option.{Option, none, some}
use Rattle.rules.specs.Lines.{Line, Variable}
use Rattle.rules.specs.Resolve.{resolve}
use Rattle.rules.specs.Steps.{Step, resolved}
use Rattle.rules.specs.Elimination.{Stops, State, running, ended, Pair, round_pairs, add, load, tried, try_all, rounds, eliminate}
use Rattle.theory_lists.specs.All.{All, all_map, Any}
use Rattle.theory_saturation.specs.Rounds.{drop-next}
use Rattle.theory_elimination.specs.States.{add-cases}
use Rattle.theory_elimination.specs.Pairs.{PairOf, round-pairs, pair-append}

-- the step by which a pair's resolvent is added
abbrev pub resolvent_of : Variable → Pair → Line → Step
resolvent_of v p l = record { origin = resolved v p.upper.number p.lower.number; line = l }

module _ (stops : Stops) (variables : List Variable) (parts : List Step) (P : State → Type 0) where
  -- what each kind of event must keep
  pub record Preserved : Type 0 where
    pub part : (s : Step) (steps : List Step) (n : ℕ) → Any (λ x. x ≡ s) parts → P (running steps n) → P (add stops false s steps n)
    pub dropped : (t : ℕ) (v : Variable) (vs : List Variable) → drop t variables ≡ v ∷ vs → (p : Pair) (steps : List Step) (n : ℕ)
        → PairOf variables v t steps p
        → resolve v p.upper.line p.lower.line ≡ none → P (running steps n) → P (running steps (suc n))
    pub result : (t : ℕ) (v : Variable) (vs : List Variable) → drop t variables ≡ v ∷ vs → (p : Pair) (l : Line) (steps : List Step) (n : ℕ)
        → PairOf variables v t steps p
        → resolve v p.upper.line p.lower.line ≡ some l → P (running steps n)
        → P (add stops (stops.at_line l) (resolvent_of v p l) steps (suc n))

-- ---- the pairs of a round stay pairs while it runs
abbrev pub PairsIn : List Variable → Variable → ℕ → List Pair → State → Type 0
PairsIn variables v t ps (running steps n) = All (PairOf variables v t steps) ps
PairsIn variables v t ps (ended e steps n) = Unit {0}

module _ (variables : List Variable) (v : Variable) (t : ℕ) (ps : List Pair) where
  pub tried-pairs : (stops : Stops) (p : Pair) (m : Option Line) (steps : List Step) (n : ℕ) → All (PairOf variables v t steps) ps
      → PairsIn variables v t ps (tried stops v p m steps n)
  unfolding tried
  tried-pairs stops p none steps n h = h
  tried-pairs stops p (some l) steps n h =
      add-cases (PairsIn variables v t ps) (resolvent_of v p l) steps n stops (stops.at_line l) (λ w. tt) (λ k. h) (λ m. tt) (λ m e. tt)
      (λ m e. all_map (PairOf variables v t steps) (PairOf variables v t (steps ++ (resolvent_of v p l ∷ []))) ps
      (pair-append variables v t steps (resolvent_of v p l ∷ [])) h)

-- the parts are among themselves
pub members : (xs : List Step) → All (λ s. Any (λ x. x ≡ s) xs) xs
members [] = tt
members (x ∷ xs) = (inl refl, all_map (λ s. Any (λ y. y ≡ s) xs) (λ s. Any (λ y. y ≡ s) (x ∷ xs)) xs (λ s h. inr h) (members xs))

-- ---- the stages
module _ (stops : Stops) (variables : List Variable) (parts : List Step) (P : State → Type 0)
    (kept : Preserved stops variables parts P) where
  load-keeps : (ss : List Step) (state : State) → All (λ s. Any (λ x. x ≡ s) parts) ss → P state → P (load stops ss state)
  unfolding load
  load-keeps [] state h q = q
  load-keeps (s ∷ ss) (ended e steps n) h q = q
  load-keeps (s ∷ ss) (running steps n) h q = load-keeps ss (add stops false s steps n) h.1 (kept.part s steps n h.0 q)

  module _ (t : ℕ) (v : Variable) (vs : List Variable) (here : drop t variables ≡ v ∷ vs) where
    tried-keeps : (p : Pair) (m : Option Line) (steps : List Step) (n : ℕ) → resolve v p.upper.line p.lower.line ≡ m
        → PairOf variables v t steps p → P (running steps n) → P (tried stops v p m steps (suc n))
    unfolding tried
    tried-keeps p none steps n e h q = kept.dropped t v vs here p steps n h e q
    tried-keeps p (some l) steps n e h q = kept.result t v vs here p l steps n h e q

    try-keeps : (ps : List Pair) (state : State) → PairsIn variables v t ps state → P state → P (try_all stops v ps state)
    unfolding try_all
    try-keeps [] state h q = q
    try-keeps (p ∷ ps) (ended e steps n) h q = q
    try-keeps (p ∷ ps) (running steps n) h q =
        let m = resolve v p.upper.line p.lower.line in
        try-keeps ps (tried stops v p m steps (suc n)) (tried-pairs variables v t ps stops p m steps (suc n) h.1)
        (tried-keeps p m steps n refl h.0 q)

  rounds-keeps : (t : ℕ) (vs : List Variable) (state : State) → drop t variables ≡ vs → P state → P (rounds stops variables t vs state)
  unfolding rounds
  rounds-keeps t [] state e q = q
  rounds-keeps t (v ∷ vs) (ended end steps n) e q = q
  rounds-keeps t (v ∷ vs) (running steps n) e q =
      let ps = round_pairs variables v t steps in
      rounds-keeps (suc t) vs (try_all stops v ps (running steps n)) (drop-next variables t v vs e)
      (try-keeps t v vs e ps (running steps n) (round-pairs variables v t steps) q)

  pub elimination-induction : P (running [] 0) → P (eliminate stops variables parts)
  unfolding eliminate
  elimination-induction q =
      rounds-keeps 0 variables (load stops parts (running [] 0)) refl (load-keeps parts (running [] 0) (members parts) q)
