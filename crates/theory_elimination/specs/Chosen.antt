-- An elimination that picks the rational variable of each round from the lines it holds is the elimination in the order that it took; and
-- under any stops it takes the order of the elimination without limits, as far as it comes.
use Rattle.std.specs.Prelude.{◌≡◌, Bool, true, false, ◌&&◌, ◌||◌, ◌⊎◌, eqb, drop}
use Rattle.std.proofs.Math.Path.{refl, sym, ap, subst, subst⁻¹}
use Rattle.std.proofs.Common.{◌∙◌, ⊎_elim, drop_at}
use mathlib.Core.List.{List, [], ◌∷◌, ◌++◌, map, append_assoc, append-nil}
use Prim.Native.Nat.{ℕ, zero, suc, ◌+◌}
use native.Mathlib.Omega.{arith}
use Rattle.std.proofs.Math.ListN.{length, length-append}
use Rattle.std.proofs.lemmas.List.{length-map}
use Rattle.rules.specs.Problem.{Problem}
use Rattle.rules.specs.Lists.{tabulate}
use Rattle.rules_types.specs.Limits as limit
use Rattle.rules.specs.Lines.{Line, Variable, rational, boolean, positively, negatively, contains}
use Rattle.rules.specs.Steps.{Step}
use Rattle.rules.specs.Elimination.{Stops, unlimited, State, running, ended, Run, Pair, round_of}
use Rattle.rules.specs.Elimination.{select, side_of, round_pairs, order_by, remaining, rationals_after, order_after, order_of, pick, load}
use Rattle.rules.specs.Elimination.{loadable_of, try_all, rounds, eliminate, chosen_rounds, other_rounds, chosen_run, elimination}
use Rattle.theory_lists.specs.All.{map-append}
use Rattle.theory_saturation.specs.Rounds.{drop-next}
use Rattle.theory_elimination.specs.States.{rounds-ended}
use Rattle.theory_elimination.specs.Stopped.{Stopped, load-or, try-or}

-- ---- a round's pairs see no later variable
round-prefix : (before more : List Variable) (v : Variable) (l : Line) → contains v l ≡ true
    → round_of (before ++ (v ∷ more)) l ≡ round_of (before ++ (v ∷ [])) l
unfolding round_of
round-prefix [] more v l h = rw (h, round_of)
round-prefix (w ∷ before) more v l h = by (contains w l) (round-prefix before more v l h)
  where
    by : (b : Bool) → round_of (before ++ (v ∷ more)) l ≡ round_of (before ++ (v ∷ [])) l
        → ◌≡◌ {A = ℕ} (elim b [ true ↦ 0 | false ↦ suc (round_of (before ++ (v ∷ more)) l) ])
        (elim b [ true ↦ 0 | false ↦ suc (round_of (before ++ (v ∷ [])) l) ])
    by true e = refl
    by false e = ap suc e

abbrev Sided : (Variable → Line → Bool) → Type 0
Sided side = (v : Variable) (l : Line) → side v l ≡ true → contains v l ≡ true

test-prefix : (side : Variable → Line → Bool) → Sided side → (before more : List Variable) (v : Variable) (t : ℕ) (l : Line)
    → (side v l && eqb (round_of (before ++ (v ∷ more)) l) t) ≡ (side v l && eqb (round_of (before ++ (v ∷ [])) l) t)
test-prefix side sided before more v t l = by (side v l) refl
  where
    by : (b : Bool) → side v l ≡ b
        → (b && eqb (round_of (before ++ (v ∷ more)) l) t) ≡ (b && eqb (round_of (before ++ (v ∷ [])) l) t)
    by true e = ap (λ (k : ℕ). eqb k t) (round-prefix before more v l (sided v l e))
    by false e = refl

select-same : (p q : Line → Bool) → ((l : Line) → p l ≡ q l) → (n : ℕ) (ss : List Step) → select p n ss ≡ select q n ss
unfolding select
select-same p q e n [] = refl
select-same p q e n (s ∷ ss) = λ i. elim (e s.line i) [
  | true ↦ record { number = n; line = s.line } ∷ select-same p q e (suc n) ss i
  | false ↦ select-same p q e (suc n) ss i
]

pairs-prefix : (before more : List Variable) (v : Variable) (t : ℕ) (steps : List Step)
    → round_pairs (before ++ (v ∷ more)) v t steps ≡ round_pairs (before ++ (v ∷ [])) v t steps
unfolding round_pairs side_of contains
pairs-prefix before more v t steps =
    rw (
      select-same (test positively (v ∷ more)) (test positively (v ∷ [])) (test-prefix positively up before more v t) 0 steps,
      select-same (test negatively (v ∷ more)) (test negatively (v ∷ [])) (test-prefix negatively low before more v t) 0 steps,
    )
  where
    test : (Variable → Line → Bool) → List Variable → Line → Bool
    test side vs l = side v l && eqb (round_of (before ++ vs) l) t

    or-true : (a b : Bool) → b ≡ true → (a || b) ≡ true
    or-true true b e = refl
    or-true false b e = e

    up : Sided positively
    up w l e = rw e

    low : Sided negatively
    low w l e = or-true (positively w l) (negatively w l) e

-- ---- what a run took goes on from what was taken
pub record Extends (taken longer : List ℕ) : Type 0 where
  pub more : List ℕ
  pub is : longer ≡ taken ++ more

pub extends-self : (taken : List ℕ) → Extends taken taken
extends-self taken = record { more = []; is = sym (append-nil taken) }

extends-next : (taken longer : List ℕ) (f : ℕ) → Extends (taken ++ (f ∷ [])) longer → Extends taken longer
extends-next taken longer f e = record { more = f ∷ e.more; is = e.is ∙ append_assoc taken (f ∷ []) e.more }

-- an order whose first rounds are those of these rational variables
pub record Begins (taken : List ℕ) (variables : List Variable) : Type 0 where
  pub rest : List Variable
  pub is : variables ≡ map rational taken ++ rest

pub after-begins : (taken longer : List ℕ) → Extends taken longer → Begins taken (order_after longer)
unfolding order_after rationals_after order_by
after-begins taken longer e =
    let behind = remaining limit.rationals longer in
    let marks = tabulate limit.all_booleans boolean in
    record {
      rest = map rational (e.more ++ behind) ++ marks;
      is = ap (λ (l : List ℕ). map rational (l ++ behind) ++ marks) e.is
          ∙ ap (λ (l : List ℕ). map rational l ++ marks) (append_assoc taken e.more behind)
          ∙ ap (λ (l : List Variable). l ++ marks) (map-append rational taken (e.more ++ behind))
          ∙ append_assoc (map rational taken) (map rational (e.more ++ behind)) marks;
    }

pub begins-shorter : (taken longer : List ℕ) (variables : List Variable) → Extends taken longer → Begins longer variables
    → Begins taken variables
begins-shorter taken longer variables e b = record {
  rest = map rational e.more ++ b.rest;
  is = b.is ∙ ap (λ (l : List ℕ). map rational l ++ b.rest) e.is
      ∙ ap (λ (l : List Variable). l ++ b.rest) (map-append rational taken e.more)
      ∙ append_assoc (map rational taken) (map rational e.more) b.rest;
}

module _ (taken : List ℕ) (f : ℕ) (variables : List Variable) (b : Begins (taken ++ (f ∷ [])) variables) where
  pub next-is : variables ≡ map rational taken ++ (rational f ∷ b.rest)
  next-is = b.is ∙ ap (λ (l : List Variable). l ++ b.rest) (map-append rational taken (f ∷ []))
      ∙ append_assoc (map rational taken) (rational f ∷ []) b.rest

  pub next-drop : drop (length taken) variables ≡ rational f ∷ drop (suc (length taken)) variables
  next-drop =
      let here = ap (drop (length taken)) next-is
      ∙ drop_at (map rational taken) (rational f ∷ b.rest) (length taken) (length-map taken rational) in
      here ∙ ap (λ (vs : List Variable). rational f ∷ vs) (sym (drop-next variables (length taken) (rational f) b.rest here))

  pub next-pairs : (t : ℕ) (steps : List Step) → round_pairs variables (rational f) t steps
      ≡ round_pairs (map rational taken ++ (rational f ∷ [])) (rational f) t steps
  next-pairs t steps = ap (λ (vs : List Variable). round_pairs vs (rational f) t steps) next-is
      ∙ pairs-prefix (map rational taken) b.rest (rational f) t steps

module _ (stops : Stops) (r : ℕ) where
  pub run-extends : (k : ℕ) (taken : List ℕ) (state : State) → Extends taken (chosen_rounds stops r k taken state).taken
  unfolding chosen_rounds
  run-extends zero taken state = extends-self taken
  run-extends (suc k) taken (ended e steps n) = extends-self taken
  run-extends (suc k) taken (running steps n) =
      let f = pick r taken steps in
      extends-next taken _ f (run-extends k (taken ++ (f ∷ [])) _)

  -- k rounds of any order that begins as it took
  pub chosen_is : (k : ℕ) (taken : List ℕ) (state : State) (variables : List Variable)
      → Begins (chosen_rounds stops r k taken state).taken variables
      → rounds stops variables (length taken) (drop (length taken) variables) state
      ≡ rounds stops variables (length taken + k) (drop (length taken + k) variables) (chosen_rounds stops r k taken state).state
  unfolding chosen_rounds rounds
  chosen_is zero taken state variables b =
      let e : length taken ≡ length taken + 0 = omega arith in
      ap (λ (t : ℕ). rounds stops variables t (drop t variables) state) e
  chosen_is (suc k) taken (ended e steps n) variables b =
      rounds-ended stops e steps n variables (length taken) (drop (length taken) variables)
      ∙ sym (rounds-ended stops e steps n variables (length taken + suc k) (drop (length taken + suc k) variables))
  chosen_is (suc k) taken (running steps n) variables b =
      let f = pick r taken steps in
      let next = taken ++ (f ∷ []) in
      let t = length taken in
      let here = round_pairs (order_after next) (rational f) t steps in
      let state = try_all stops (rational f) here (running steps n) in
      let run = chosen_rounds stops r k next state in
      let begun = begins-shorter next run.taken variables (run-extends k next state) b in
      let same : round_pairs variables (rational f) t steps ≡ here = next-pairs taken f variables begun t steps
      ∙ sym (next-pairs taken f (order_after next) (after-begins next next (extends-self next)) t steps) in
      let long : length next ≡ suc t = omega (arith, length-append taken (f ∷ [])) in
      let more : length next + k ≡ t + suc k = omega (arith, long) in
      ap (λ (vs : List Variable). rounds stops variables t vs (running steps n)) (next-drop taken f variables begun)
      ∙ ap (λ (ps : List Pair). rounds stops variables (suc t) (drop (suc t) variables)
      (try_all stops (rational f) ps (running steps n))) same
      ∙ ap (λ (u : ℕ). rounds stops variables u (drop u variables) state) (sym long)
      ∙ chosen_is k next state variables b
      ∙ ap (λ (u : ℕ). rounds stops variables u (drop u variables) run.state) more

-- ---- it picks as the elimination without limits does
abbrev pub IsRunning : State → Type 0
IsRunning (running steps n) = Unit {0}
IsRunning (ended e steps n) = ⊥

-- what one run took goes on as another's; the same, unless it has ended
pub record Follows (run other : Run) : Type 0 where
  pub order : Extends run.taken other.taken
  pub whole : IsRunning run.state → run.taken ≡ other.taken

module _ (stops : Stops) (r : ℕ) where
  stopped-run : (k : ℕ) (taken : List ℕ) (state : State) → Stopped state
      → ((chosen_rounds stops r k taken state).taken ≡ taken) × (IsRunning (chosen_rounds stops r k taken state).state → ⊥)
  unfolding chosen_rounds
  stopped-run zero taken (running steps n) h = absurd h
  stopped-run zero taken (ended e steps n) h = (refl, λ z. z)
  stopped-run (suc k) taken (running steps n) h = absurd h
  stopped-run (suc k) taken (ended e steps n) h = (refl, λ z. z)

  follows-stopped : (k : ℕ) (taken : List ℕ) (state : State) (other : Run) → Extends taken other.taken → Stopped state
      → Follows (chosen_rounds stops r k taken state) other
  follows-stopped k taken state other e h =
      let s = stopped-run k taken state h in
      record { order = subst⁻¹ (λ (l : List ℕ). Extends l other.taken) s.0 e; whole = λ z. absurd (s.1 z) }

  -- from states that are the same, or from one that has ended
  begun-so : (k : ℕ) (taken : List ℕ) (state other : State) → (state ≡ other) ⊎ Stopped state
      → Follows (chosen_rounds stops r k taken other) (chosen_rounds unlimited r k taken other)
      → Follows (chosen_rounds stops r k taken state) (chosen_rounds unlimited r k taken other)
  begun-so k taken state other begin follows =
      ⊎_elim (λ e. subst⁻¹ (λ (s : State). Follows (chosen_rounds stops r k taken s) (chosen_rounds unlimited r k taken other)) e follows)
      (follows-stopped k taken state (chosen_rounds unlimited r k taken other) (run-extends unlimited r k taken other)) begin

  pub run-follows : (k : ℕ) (taken : List ℕ) (state : State)
      → Follows (chosen_rounds stops r k taken state) (chosen_rounds unlimited r k taken state)
  unfolding chosen_rounds
  run-follows zero taken state = record { order = extends-self taken; whole = λ z. refl }
  run-follows (suc k) taken (ended e steps n) = record { order = extends-self taken; whole = λ z. refl }
  run-follows (suc k) taken (running steps n) =
      let f = pick r taken steps in
      let next = taken ++ (f ∷ []) in
      let here = round_pairs (order_after next) (rational f) (length taken) steps in
      let state = try_all unlimited (rational f) here (running steps n) in
      begun-so k next (try_all stops (rational f) here (running steps n)) state (try-or stops (rational f) here (running steps n))
      (run-follows k next state)

module _ (stops : Stops) (p : Problem) where
  pub problem-follows : Follows (chosen_run stops p) (chosen_run unlimited p)
  unfolding chosen_run
  problem-follows =
      let r = p.rationals in
      let state = load unlimited (loadable_of p) (running [] 0) in
      begun-so stops r r [] (load stops (loadable_of p) (running [] 0)) state (load-or stops (loadable_of p) (running [] 0))
      (run-follows stops r r [] state)

  -- the other rounds, in the order of the elimination without limits
  others : (state : State) → (IsRunning state → (chosen_run stops p).taken ≡ (chosen_run unlimited p).taken)
      → other_rounds stops p.rationals (record { taken = (chosen_run stops p).taken; state = state })
      ≡ rounds stops (order_of p) p.rationals (drop p.rationals (order_of p)) state
  unfolding other_rounds order_of
  others (ended e steps n) h =
      let r = p.rationals in
      let own = order_after (chosen_run stops p).taken in
      rounds-ended stops e steps n own r (drop r own) ∙ sym (rounds-ended stops e steps n (order_of p) r (drop r (order_of p)))
  others (running steps n) h =
      let r = p.rationals in
      ap (λ (l : List ℕ). rounds stops (order_after l) r (drop r (order_after l)) (running steps n)) (h tt)

  -- the theorem
  pub elimination-ordered : elimination stops p ≡ eliminate stops (order_of p) (loadable_of p)
  unfolding elimination eliminate order_of chosen_run
  elimination-ordered =
      let r = p.rationals in
      let run = chosen_run stops p in
      let none : 0 + r ≡ r = omega arith in
      let begun = after-begins run.taken (chosen_run unlimited p).taken problem-follows.order in
      others run.state problem-follows.whole
      ∙ sym (chosen_is stops r r [] (load stops (loadable_of p) (running [] 0)) (order_of p) begun
      ∙ ap (λ (t : ℕ). rounds stops (order_of p) t (drop t (order_of p)) run.state) none)

  -- an elimination that runs to its end has the order of that without limits
  goes_on : (run : Run) → IsRunning (other_rounds stops p.rationals run) → IsRunning run.state
  unfolding other_rounds
  goes_on run h = by run.state h
    where
      by : (state : State) → let variables = order_after run.taken in
          IsRunning (rounds stops variables p.rationals (drop p.rationals variables) state) → IsRunning state
      by (running steps n) h = tt
      by (ended e steps n) h =
          let variables = order_after run.taken in
          subst IsRunning (rounds-ended stops e steps n variables p.rationals (drop p.rationals variables)) h

  pub order-kept : IsRunning (elimination stops p) → order_after (chosen_run stops p).taken ≡ order_of p
  unfolding elimination order_of
  order-kept h = ap order_after (problem-follows.whole (goes_on (chosen_run stops p) h))
