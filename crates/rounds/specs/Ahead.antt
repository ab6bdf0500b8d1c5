-- What is left of a run before round t: the rounds that are chosen and then the others, or only others.
use Rattle.std.specs.Prelude.{◌≡◌, ◌⊎◌, length, drop}
use Rattle.std.proofs.Math.Path.{refl, sym, ap}
use Rattle.std.proofs.Common.{◌∙◌, add-one, drop_of_length-le}
use Rattle.std.proofs.Math.Logic.{inl, inr}
use mathlib.Core.List.{List, [], ◌∷◌, ◌++◌}
use Prim.Native.Nat.{ℕ, zero, suc, ◌+◌, ◌-◌, ◌≤◌, ◌<◌}
use native.Mathlib.Omega.{arith}
use Rattle.std.proofs.Math.ListN.{length-append}
use Rattle.rules.specs.Lines.{Variable, rational}
use Rattle.rules.specs.Steps.{Step}
use Rattle.rules.specs.Elimination.{Stops, End, State, running, ended, Run, order_after, pick, round_pairs, try_all, rounds, chosen_rounds}
use Rattle.rules.specs.Elimination.{other_rounds}
use Rattle.theory_elimination.specs.States.{rounds-ended}

module _ (stops : Stops) (r : ℕ) where
  -- k rounds of rational variables are to be chosen
  pub record ToChoose (whole : Run) (taken : List ℕ) (t : ℕ) (state : State) : Type 0 where
    pub few : t ≤ r
    pub long : length taken ≡ t
    pub same : chosen_rounds stops r (r - t) taken state ≡ whole

  -- none is
  pub record AllChosen (whole : Run) (taken : List ℕ) (t : ℕ) (state : State) : Type 0 where
    pub late : r ≤ t
    pub order : taken ≡ whole.taken
    pub same : rounds stops (order_after taken) t (drop t (order_after taken)) state ≡ other_rounds stops r whole

  abbrev pub Ahead : Run → List ℕ → ℕ → State → Type 0
  Ahead whole taken t state = ToChoose whole taken t state ⊎ AllChosen whole taken t state

  pub ahead-start : (state : State) → Ahead (chosen_rounds stops r r [] state) [] 0 state
  ahead-start state =
      let all : r - 0 ≡ r = omega arith in
      inl (record { few = omega arith; long = refl; same = ap (λ (k : ℕ). chosen_rounds stops r k [] state) all })

  -- behind the last that is chosen
  all-chosen : (whole : Run) (taken : List ℕ) (t : ℕ) (state : State) → r ≤ t → Ahead whole taken t state → AllChosen whole taken t state
  unfolding chosen_rounds other_rounds
  all-chosen whole taken t state h (inr a) = a
  all-chosen whole taken t state h (inl c) =
      let none : r - t ≡ 0 = omega arith in
      let here : t ≡ r = omega (arith, c.few) in
      let is : record { taken = taken; state = state } ≡ whole = ap (λ (k : ℕ). chosen_rounds stops r k taken state) (sym none) ∙ c.same in
      record {
        late = h;
        order = ap (λ (run : Run). run.taken) is;
        same = ap (λ (k : ℕ). rounds stops (order_after taken) k (drop k (order_after taken)) state) here
            ∙ ap (other_rounds stops r) is;
      }

  module _ (whole : Run) (taken : List ℕ) (t : ℕ) where
    pub ahead-chosen : (steps : List Step) (n : ℕ) → t < r → Ahead whole taken t (running steps n)
        → let f = pick r taken steps in
        let next = taken ++ (f ∷ []) in
        Ahead whole next (t + 1) (try_all stops (rational f) (round_pairs (order_after next) (rational f) t steps) (running steps n))
    unfolding chosen_rounds
    ahead-chosen steps n h (inr a) = absurd (omega (arith, a.late))
    ahead-chosen steps n h (inl c) =
        let f = pick r taken steps in
        let next = taken ++ (f ∷ []) in
        let one : r - t ≡ suc (r - (t + 1)) = omega arith in
        inl (record {
          few = omega arith;
          long = omega (arith, length-append taken (f ∷ []), c.long);
          same =
              ap (λ (k : ℕ). chosen_rounds stops r (r - (t + 1)) next
              (try_all stops (rational f) (round_pairs (order_after next) (rational f) k steps) (running steps n))) (sym c.long)
              ∙ ap (λ (k : ℕ). chosen_rounds stops r k taken (running steps n)) (sym one) ∙ c.same;
        })

    pub ahead-other : (steps : List Step) (n : ℕ) (v : Variable) → r ≤ t → Ahead whole taken t (running steps n)
        → drop t (order_after taken) ≡ v ∷ drop (suc t) (order_after taken)
        → Ahead whole taken (t + 1) (try_all stops v (round_pairs (order_after taken) v t steps) (running steps n))
    unfolding rounds
    ahead-other steps n v h a e =
        let c = all-chosen whole taken t (running steps n) h a in
        let state = try_all stops v (round_pairs (order_after taken) v t steps) (running steps n) in
        inr (record {
          late = omega arith;
          order = c.order;
          same =
              ap (λ (k : ℕ). rounds stops (order_after taken) k (drop k (order_after taken)) state) (add-one t)
              ∙ sym (ap (λ (vs : List Variable). rounds stops (order_after taken) t vs (running steps n)) e)
              ∙ c.same;
        })

    -- an end stays
    pub ahead-ended : (e : End) (steps : List Step) (n : ℕ) → Ahead whole taken t (ended e steps n)
        → (ended e steps n ≡ other_rounds stops r whole) × (taken ≡ whole.taken)
    unfolding chosen_rounds other_rounds
    ahead-ended e steps n (inr a) =
        (sym (rounds-ended stops e steps n (order_after taken) t (drop t (order_after taken))) ∙ a.same, a.order)
    ahead-ended e steps n (inl c) =
        let is = sym (stays (r - t)) ∙ c.same in (
          sym (rounds-ended stops e steps n (order_after taken) r (drop r (order_after taken))) ∙ others is,
          ap (λ (run : Run). run.taken) is,
        )
      where
        stays : (k : ℕ) → chosen_rounds stops r k taken (ended e steps n) ≡ record { taken = taken; state = ended e steps n }
        stays zero = refl
        stays (suc k) = refl

        others : record { taken = taken; state = ended e steps n } ≡ whole
            → rounds stops (order_after taken) r (drop r (order_after taken)) (ended e steps n) ≡ other_rounds stops r whole
        others is = ap (other_rounds stops r) is

    -- behind the last round
    pub ahead-done : (state : State) → r < t → length (order_after taken) ≤ t → Ahead whole taken t state
        → (state ≡ other_rounds stops r whole) × (taken ≡ whole.taken)
    unfolding rounds
    ahead-done state h l a =
        let c = all-chosen whole taken t state (omega arith) a in (
          ap (λ (vs : List Variable). rounds stops (order_after taken) t vs state) (sym (drop_of_length-le (order_after taken) l)) ∙ c.same,
          c.order,
        )
