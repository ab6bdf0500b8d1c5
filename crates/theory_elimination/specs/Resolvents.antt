-- The resolvents that demand 3 speaks of are the events of the elimination that are resolvents.
use Rattle.std.specs.Prelude.{◌≡◌, refl, false, List, [], ◌∷◌, ◌++◌, map, ℕ, suc, T}
use Rattle.std.proofs.Common.{◌∙◌}
use Rattle.std.proofs.Math.Option.{Option, none, some}
use Rattle.rules.specs.Problem.{Problem}
use Rattle.rules.specs.Lines.{Line, Variable}
use Rattle.rules.specs.Resolve.{resolve}
use Rattle.rules.specs.Steps.{Step}
use Rattle.rules.specs.Elimination.{unlimited, State, running, ended, Pair, order_of, round_pairs, loadable_of, add, load, tried, try_all}
use Rattle.rules.specs.Needs.{listed, tried_resolvents, round_resolvents, resolvents}
use Rattle.rules.specs.Lists.{filter}
use Rattle.theory_lists.specs.All.{All, filter-all, all_filter, filter-append, mapped-all, all-mapped, map-append}
use Rattle.theory_elimination.specs.Events.{Event, load_events, resolvent_events, try_events, round_events, events}

unfoldable pub resolvent_lines : List Event → List Line
resolvent_lines es = map (λ e. e.line) (filter (λ e. e.is_resolvent) es)

resolvent_lines-append : (es fs : List Event) → resolvent_lines (es ++ fs) ≡ resolvent_lines es ++ resolvent_lines fs
unfolding resolvent_lines
resolvent_lines-append es fs = rw (filter-append (λ e. e.is_resolvent) es fs)
    (map-append (λ e. e.line) (filter (λ e. e.is_resolvent) es) (filter (λ e. e.is_resolvent) fs))

load-resolvents : (ss : List Step) (state : State) → resolvent_lines (load_events ss state) ≡ []
unfolding resolvent_lines filter load_events
load-resolvents [] state = refl
load-resolvents (s ∷ ss) (ended e steps n) = refl
load-resolvents (s ∷ ss) (running steps n) = load-resolvents ss (add unlimited false s steps n)

resolvent-resolvents : (m : Option Line) (steps : List Step) (n : ℕ) → resolvent_lines (resolvent_events m steps n) ≡ listed m
unfolding resolvent_lines filter resolvent_events listed
resolvent-resolvents none steps n = refl
resolvent-resolvents (some l) steps n = refl

try-resolvents : (v : Variable) (ps : List Pair) (state : State) → resolvent_lines (try_events v ps state) ≡ tried_resolvents v ps state
unfolding resolvent_lines filter try_events tried_resolvents
try-resolvents v [] state = refl
try-resolvents v (p ∷ ps) (ended e steps n) = refl
try-resolvents v (p ∷ ps) (running steps n) =
    let m = resolve v p.upper.line p.lower.line in
    let next = tried unlimited v p m steps (suc n) in
    resolvent_lines-append (resolvent_events m steps (suc n)) (try_events v ps next)
    ∙ (λ i. resolvent-resolvents m steps (suc n) i ++ try-resolvents v ps next i)

round-resolvents : (variables : List Variable) (t : ℕ) (vs : List Variable) (state : State)
    → resolvent_lines (round_events variables t vs state) ≡ round_resolvents variables t vs state
unfolding resolvent_lines filter round_events round_resolvents
round-resolvents variables t [] state = refl
round-resolvents variables t (v ∷ vs) (ended e steps n) = refl
round-resolvents variables t (v ∷ vs) (running steps n) =
    let ps = round_pairs variables v t steps in
    let next = try_all unlimited v ps (running steps n) in
    resolvent_lines-append (try_events v ps (running steps n)) (round_events variables (suc t) vs next)
    ∙ (λ i. try-resolvents v ps (running steps n) i ++ round-resolvents variables (suc t) vs next i)

pub resolvents-are : (p : Problem) → resolvent_lines (events (order_of p) (loadable_of p)) ≡ resolvents p
unfolding events resolvents
resolvents-are p =
    let next = load unlimited (loadable_of p) (running [] 0) in
    resolvent_lines-append (load_events (loadable_of p) (running [] 0)) (round_events (order_of p) 0 (order_of p) next)
    ∙ (λ i. load-resolvents (loadable_of p) (running [] 0) i ++ round-resolvents (order_of p) 0 (order_of p) next i)

-- ---- a fact of every resolvent, along the events
module _ (P : Line → Type 0) where
  abbrev OfResolvent : Event → Type 0
  OfResolvent e = T e.is_resolvent → P e.line

  pub resolvents-all : (es : List Event) → All P (resolvent_lines es) → All OfResolvent es
  unfolding resolvent_lines
  resolvents-all es h =
      all_filter (λ e. P e.line) (λ e. e.is_resolvent) es (mapped-all P (λ e. e.line) (filter (λ e. e.is_resolvent) es) h)

  pub all-resolvents : (es : List Event) → All OfResolvent es → All P (resolvent_lines es)
  unfolding resolvent_lines
  all-resolvents es h =
      all-mapped P (λ e. e.line) (filter (λ e. e.is_resolvent) es) (filter-all (λ e. P e.line) (λ e. e.is_resolvent) es h)
