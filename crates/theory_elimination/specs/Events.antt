-- What the elimination without limits comes to: every part and every normalized resolvent, with the lines held and the pairs tried then.
use Rattle.std.specs.Prelude.{Bool, true, false, List, [], ◌∷◌, ◌++◌, ℕ, suc}
use Rattle.std.proofs.Math.Option.{Option, none, some}
use Rattle.rules.specs.Lines.{Line, Variable}
use Rattle.rules.specs.Resolve.{resolve}
use Rattle.rules.specs.Steps.{Step}
use Rattle.rules.specs.Elimination.{unlimited, State, running, ended, Pair, round_pairs, add, load, tried, try_all}

-- a part, or a resolvent, whose amounts are asked; the pairs count its own
pub record Event : Type 0 where
  pub is_resolvent : Bool
  pub line : Line
  pub steps : List Step
  pub pairs : ℕ

unfoldable pub load_events : List Step → State → List Event
load_events [] state = []
load_events (s ∷ ss) (ended e steps n) = []
load_events (s ∷ ss) (running steps n) =
    record { is_resolvent = false; line = s.line; steps = steps; pairs = n } ∷ load_events ss (add unlimited false s steps n)

unfoldable pub resolvent_events : Option Line → List Step → ℕ → List Event
resolvent_events none steps n = []
resolvent_events (some l) steps n = record { is_resolvent = true; line = l; steps = steps; pairs = n } ∷ []

unfoldable pub try_events : Variable → List Pair → State → List Event
try_events v [] state = []
try_events v (p ∷ ps) (ended e steps n) = []
try_events v (p ∷ ps) (running steps n) =
    let m = resolve v p.upper.line p.lower.line in
    resolvent_events m steps (suc n) ++ try_events v ps (tried unlimited v p m steps (suc n))

unfoldable pub round_events : List Variable → ℕ → List Variable → State → List Event
round_events variables t [] state = []
round_events variables t (v ∷ vs) (ended e steps n) = []
round_events variables t (v ∷ vs) (running steps n) =
    let ps = round_pairs variables v t steps in
    try_events v ps (running steps n) ++ round_events variables (suc t) vs (try_all unlimited v ps (running steps n))

unfoldable pub events : List Variable → List Step → List Event
events variables parts = load_events parts (running [] 0) ++ round_events variables 0 variables (load unlimited parts (running [] 0))
