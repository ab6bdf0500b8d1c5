-- The rational variable of a round is, of those that remain, the cheapest by the lines that the elimination holds when it comes to the
-- round; of several the first.
use Rattle.std.proofs.Math.Path.{◌≡◌, refl, sym, ap, subst, subst⁻¹}
use Rattle.std.proofs.Common.{◌∙◌, take_at}
use Rattle.std.specs.Prelude.{Bool, not, ℤ, ◌≤ℤ◌, ◌<ℤ◌, T, eqb, take, drop}
use Rattle.std.proofs.Math.Bool.{true, false}
use mathlib.Core.List.{List, [], ◌∷◌, ◌++◌, map}
use Prim.Native.Nat.{ℕ, zero, suc, ◌+◌, ◌≤◌, ◌<◌}
use native.Mathlib.Omega.{arith}
use Rattle.std.specs.Int.Signed.{lt_z, lt_z_yes, lt_z_no}
use Rattle.std.proofs.Math.ListN.{length, length-append}
use Rattle.std.proofs.lemmas.List.{length-map}
use Rattle.std.proofs.Math.Facts.{eqb_yes}
use Rattle.rules.specs.Lists.{any}
use Rattle.rules.specs.Problem.{Problem}
use Rattle.rules.specs.Lines.{Variable, rational}
use Rattle.rules.specs.Steps.{Step}
use Rattle.rules.specs.Elimination.{Stops, unlimited, State, running, ended, remaining, order_after, cost, cheapest, pick, Pair}
use Rattle.rules.specs.Elimination.{round_pairs}
use Rattle.rules.specs.Elimination.{try_all, load, loadable_of, rounds, chosen_rounds, chosen_run, order_of}
use Rattle.theory_lists.specs.Tests.{of-true, of-false}
use Rattle.theory_lists.specs.All.{All, all_any, any-yes}
use Rattle.theory_lists.specs.Distinct.{Ascending}
use Rattle.theory_integers.specs.Order.{≤-refl, ≤-reflexive, ≤_trans, ≤-antisym, ≤-<-trans, <⇒≤, <⇒≢}
use Rattle.theory_saturation.specs.Rounds.{At}
use Rattle.theory_saturation.specs.Order.{at-behind}
use Rattle.theory_saturation.specs.Taken.{Taken, remaining-ascending, remaining-all, remaining-has, remaining-count, pick_all, none-taken}
use Rattle.theory_saturation.specs.Taken.{taken_next}
use Rattle.theory_elimination.specs.States.{rounds-ended}
use Rattle.theory_elimination.specs.Chosen.{Begins, extends-self, begins-shorter, after-begins, next-is, next-drop, next-pairs}
use Rattle.theory_elimination.specs.Chosen.{run-extends, problem-follows}

-- ---- no dearer than another, and of the same cost no higher
pub record NoDearer (price : ℕ → ℤ) (f g : ℕ) : Type 0 where
  pub least : price f ≤ℤ price g
  pub first : price f ≡ price g → f ≤ g

module _ (price : ℕ → ℤ) where
  cheapest-least : (f : ℕ) (fs : List ℕ) → Ascending (f ∷ fs)
      → NoDearer price (cheapest price f fs) f × All (NoDearer price (cheapest price f fs)) fs
  unfolding cheapest
  cheapest-least f [] r = (record { least = ≤-refl (price f); first = λ e. omega arith }, tt)
  cheapest-least f (g ∷ gs) r =
      by (lt_z (price g) (price f)) refl (cheapest-least g gs r.1) (cheapest-least f gs (r.0.1, r.1.1)) r.0.0
    where
      by : (b : Bool) → lt_z (price g) (price f) ≡ b
          → NoDearer price (cheapest price g gs) g × All (NoDearer price (cheapest price g gs)) gs
          → NoDearer price (cheapest price f gs) f × All (NoDearer price (cheapest price f gs)) gs
          → f < g
          → let c : ℕ = elim b [ true ↦ cheapest price g gs | false ↦ cheapest price f gs ] in
          NoDearer price c f × All (NoDearer price c) (g ∷ gs)
      by true e x y l =
          let less : price g <ℤ price f = lt_z_yes (of-true _ e) in
          let below = ≤-<-trans x.0.least less in
          (record { least = <⇒≤ below; first = λ z. absurd (<⇒≢ below z) }, (x.0, x.1))
      by false e x y l =
          let more : price f ≤ℤ price g = lt_z_no (of-false _ e) in
          let tie : price (cheapest price f gs) ≡ price g → cheapest price f gs ≤ g =
          (λ z. let same = ≤-antisym y.0.least (≤_trans more (≤-reflexive (sym z))) in
          omega (arith, y.0.first same, l)) in
          (y.0, (record { least = ≤_trans y.0.least more; first = tie }, y.1))

-- ---- the rational variable of round t of an order, for a problem with r of them
pub record Cheapest (r : ℕ) (variables : List Variable) (t : ℕ) (steps : List Step) : Type 0 where
  -- those of the rounds before
  pub taken : List ℕ
  pub before : take t variables ≡ map rational taken
  pub variable : ℕ
  pub place : At variables t (rational variable)
  -- it is one of the problem's, and remains; every other that remains costs as much at least, and is higher where it costs the same
  pub own : variable < r
  pub remains : T (not (any (eqb variable) taken))
  pub cheapest : (g : ℕ) → g < r → T (not (any (eqb g) taken)) → NoDearer (cost taken steps) variable g

pick-least : (r : ℕ) (taken : List ℕ) (steps : List Step) → 0 < length (remaining r taken)
    → All (NoDearer (cost taken steps) (pick r taken steps)) (remaining r taken)
unfolding pick
pick-least r taken steps h = by (remaining r taken) h (remaining-ascending r taken)
  where
    by : (rest : List ℕ) → 0 < length rest → Ascending rest
        → All (NoDearer (cost taken steps) (elim rest [ [] ↦ 0 | f ∷ fs ↦ cheapest (cost taken steps) f fs ])) rest
    by [] h k = absurd (omega arith)
    by (f ∷ fs) h k = cheapest-least (cost taken steps) f fs k

module _ (r : ℕ) (variables : List Variable) where
  -- the first that a run takes behind those of `taken`
  picked : (taken : List ℕ) (steps : List Step) → Taken r taken → length taken < r → Begins (taken ++ (pick r taken steps ∷ [])) variables
      → Cheapest r variables (length taken) steps
  picked taken steps apart more b =
      let f = pick r taken steps in
      let left : 0 < length (remaining r taken) = omega (arith, remaining-count r taken apart) in
      let new = pick_all (λ g. g < r × T (not (any (eqb g) taken))) r taken steps left (remaining-all r taken) in
      let is = next-is taken f variables b in
      record {
        taken = taken;
        before = ap (take (length taken)) is
            ∙ take_at (map rational taken) (rational f ∷ b.rest) (length taken) (length-map taken rational);
        variable = f;
        place = subst⁻¹ (λ (vs : List Variable). At vs (length taken) (rational f)) is
            (at-behind taken (rational f ∷ b.rest) 0 (length taken) (rational f) (omega arith) refl);
        own = new.0;
        remains = new.1;
        cheapest = λ g l k. all_any (NoDearer (cost taken steps) f) (λ h. T (eqb g h)) (remaining r taken)
            (λ h n e. subst⁻¹ (NoDearer (cost taken steps) f) (eqb_yes e) n) (pick-least r taken steps left)
            (any-yes (eqb g) (remaining r taken) (remaining-has r taken g l k));
      }

  module _ (stops : Stops) where
    -- and each one behind it: after d rounds of an order that begins as the run took
    pub run-cheapest : (d k : ℕ) (taken : List ℕ) (state : State) → Taken r taken → length taken + k ≤ r → d < k
        → Begins (chosen_rounds stops r k taken state).taken variables → (steps : List Step) (n : ℕ)
        → rounds stops variables (length taken) (take d (drop (length taken) variables)) state ≡ running steps n
        → Cheapest r variables (length taken + d) steps
    unfolding chosen_rounds rounds
    run-cheapest d zero taken state apart few l b steps n e = absurd (omega arith)
    run-cheapest d (suc k) taken (ended end held m) apart few l b steps n e =
        let z = sym (rounds-ended stops end held m variables (length taken) (take d (drop (length taken) variables))) ∙ e in
        absurd (let y : ◌≡◌ {A = ℕ} 0 1 = cc in omega arith)
    run-cheapest zero (suc k) taken (running held m) apart few l b steps n e =
        let f = pick r taken held in
        let next = taken ++ (f ∷ []) in
        let state = try_all stops (rational f) (round_pairs (order_after next) (rational f) (length taken) held) (running held m) in
        let begun = begins-shorter next (chosen_rounds stops r k next state).taken variables (run-extends stops r k next state) b in
        let same : held ≡ steps = cc in
        let here : length taken ≡ length taken + 0 = omega arith in
        subst (λ (t : ℕ). Cheapest r variables t steps) here
        (subst (Cheapest r variables (length taken)) same (picked taken held apart (omega (arith, few)) begun))
    run-cheapest (suc d) (suc k) taken (running held m) apart few l b steps n e =
        let f = pick r taken held in
        let next = taken ++ (f ∷ []) in
        let t = length taken in
        let here = round_pairs (order_after next) (rational f) t held in
        let state = try_all stops (rational f) here (running held m) in
        let begun = begins-shorter next (chosen_rounds stops r k next state).taken variables (run-extends stops r k next state) b in
        let long : length next ≡ suc t = omega (arith, length-append taken (f ∷ [])) in
        let same : round_pairs variables (rational f) t held ≡ here = next-pairs taken f variables begun t held
        ∙ sym (next-pairs taken f (order_after next) (after-begins next next (extends-self next)) t held) in
        let on : rounds stops variables (length next) (take d (drop (length next) variables)) state ≡ running steps n =
        ap (λ (u : ℕ). rounds stops variables u (take d (drop u variables)) state) long
        ∙ sym (ap (λ (vs : List Variable). rounds stops variables t (take (suc d) vs) (running held m)) (next-drop taken f variables begun)
        ∙ ap (λ (ps : List Pair). rounds stops variables (suc t) (take d (drop (suc t) variables))
        (try_all stops (rational f) ps (running held m))) same)
        ∙ e in
        let more : length next + d ≡ t + suc d = omega (arith, long) in
        subst (λ (u : ℕ). Cheapest r variables u steps) more
        (run-cheapest d k next state (taken_next r taken held apart (omega (arith, few))) (omega (arith, few, long)) (omega arith) b steps n
        on)

-- ---- of a problem
-- its elimination before round t
abbrev pub before_round : Stops → Problem → ℕ → State
before_round stops p t = rounds stops (order_of p) 0 (take t (order_of p)) (load stops (loadable_of p) (running [] 0))

pub problem-cheapest : (stops : Stops) (p : Problem) (t : ℕ) → t < p.rationals → (steps : List Step) (n : ℕ)
    → before_round stops p t ≡ running steps n → Cheapest p.rationals (order_of p) t steps
unfolding chosen_run order_of
problem-cheapest stops p t h steps n e =
    let r = p.rationals in
    let begun = after-begins (chosen_run stops p).taken (chosen_run unlimited p).taken (problem-follows stops p).order in
    let here : 0 + t ≡ t = omega arith in
    subst (λ (u : ℕ). Cheapest r (order_of p) u steps) here
    (run-cheapest r (order_of p) stops t r [] (load stops (loadable_of p) (running [] 0)) (none-taken r) (omega arith) h begun steps n e)
