-- The proof only grows, so a line that the elimination without limits adds finds fewer lines than the elimination needs.
use Rattle.std.specs.Prelude.{false, not, List, [], ◌∷◌, ◌++◌, ℕ, suc, ◌≤◌, ◌<◌, T, length}
use Rattle.std.proofs.Math.Option.{Option, none, some}
use Rattle.std.proofs.Common.{le_trans, arith, length-append}
use Rattle.rules.specs.Lines.{Line, Variable}
use Rattle.rules.specs.Resolve.{resolve}
use Rattle.rules.specs.Steps.{Step}
use Rattle.rules.specs.Elimination.{unlimited, State, running, ended, covered, Pair, round_pairs, add, load, tried, try_all, rounds}
use Rattle.rules.specs.Elimination.{eliminate}
use Rattle.rules.specs.Needs.{steps_of}
use Rattle.theory_lists.specs.Tests.{clash}
use Rattle.theory_lists.specs.All.{All, all_append}
use Rattle.theory_elimination.specs.Events.{Event, load_events, resolvent_events, try_events, round_events, events}
use Rattle.theory_elimination.specs.States.{add-cases}
use Rattle.theory_elimination.specs.Induction.{resolvent_of}
use Rattle.theory_elimination.specs.Prefix.{prefix-longer, load-prefix, try-prefix, rounds-prefix}

abbrev held : State → ℕ
held state = length (steps_of state)

abbrev pub Room : ℕ → Event → Type 0
Room k e = T (not (covered e.line e.steps)) → length e.steps < k

add-room : (s : Step) (steps : List Step) (n k : ℕ) → held (add unlimited false s steps n) ≤ k
    → T (not (covered s.line steps)) → length steps < k
unfolding unlimited steps_of
add-room s steps n k =
    let more : length (steps ++ (s ∷ [])) ≤ k → T (not (covered s.line steps)) → length steps < k =
    λ h z. omega (arith, rw length-append at h) in
    add-cases (λ state. held state ≤ k → T (not (covered s.line steps)) → length steps < k) s steps n unlimited false
    (λ w. absurd w) (λ c h z. clash (covered s.line steps) c z) (λ m. absurd m) (λ m e. more) (λ m e. more)

load-room : (ss : List Step) (state : State) (k : ℕ) → held (load unlimited ss state) ≤ k → All (Room k) (load_events ss state)
unfolding load load_events
load-room [] state k h = tt
load-room (s ∷ ss) (ended e steps n) k h = tt
load-room (s ∷ ss) (running steps n) k h =
    let next = add unlimited false s steps n in
    (add-room s steps n k (le_trans (prefix-longer (load-prefix unlimited ss next)) h), load-room ss next k h)

resolvent-room : (v : Variable) (p : Pair) (m : Option Line) (steps : List Step) (n k : ℕ) → held (tried unlimited v p m steps n) ≤ k
    → All (Room k) (resolvent_events m steps n)
unfolding tried resolvent_events unlimited
resolvent-room v p none steps n k h = tt
resolvent-room v p (some l) steps n k h = (add-room (resolvent_of v p l) steps n k h, tt)

try-room : (v : Variable) (ps : List Pair) (state : State) (k : ℕ) → held (try_all unlimited v ps state) ≤ k
    → All (Room k) (try_events v ps state)
unfolding try_all try_events
try-room v [] state k h = tt
try-room v (p ∷ ps) (ended e steps n) k h = tt
try-room v (p ∷ ps) (running steps n) k h =
    let m = resolve v p.upper.line p.lower.line in
    let next = tried unlimited v p m steps (suc n) in
    all_append (Room k) (resolvent_events m steps (suc n)) (try_events v ps next)
    (resolvent-room v p m steps (suc n) k (le_trans (prefix-longer (try-prefix unlimited v ps next)) h)) (try-room v ps next k h)

rounds-room : (variables : List Variable) (t : ℕ) (vs : List Variable) (state : State) (k : ℕ)
    → held (rounds unlimited variables t vs state) ≤ k → All (Room k) (round_events variables t vs state)
unfolding rounds round_events
rounds-room variables t [] state k h = tt
rounds-room variables t (v ∷ vs) (ended e steps n) k h = tt
rounds-room variables t (v ∷ vs) (running steps n) k h =
    let ps = round_pairs variables v t steps in
    let next = try_all unlimited v ps (running steps n) in
    all_append (Room k) (try_events v ps (running steps n)) (round_events variables (suc t) vs next) (try-room v ps (running steps n) k
    (le_trans (prefix-longer (rounds-prefix unlimited variables (suc t) vs next)) h)) (rounds-room variables (suc t) vs next k h)

pub events-room : (variables : List Variable) (parts : List Step) (k : ℕ) → held (eliminate unlimited variables parts) ≤ k
    → All (Room k) (events variables parts)
unfolding eliminate events
events-room variables parts k h =
    let next = load unlimited parts (running [] 0) in
    all_append (Room k) (load_events parts (running [] 0)) (round_events variables 0 variables next) (load-room parts (running [] 0) k
    (le_trans (prefix-longer (rounds-prefix unlimited variables 0 variables next)) h)) (rounds-room variables 0 variables next k h)
