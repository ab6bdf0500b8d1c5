-- The rounds by their numbers: each takes the rational variable that is chosen for it, or the next variable of the order.
use Rattle.std.proofs.Math.Path.{◌≡◌, ap, subst, subst⁻¹}
use Rattle.std.proofs.Common.{sym, ◌∙◌, ⊎_elim, arith, leb→le}
use Rattle.std.proofs.Math.Bool.{false}
use mathlib.Core.List.{List, [], ◌∷◌, ◌++◌, append_assoc}
use Rattle.std.specs.Prelude.{ℕ, suc, ◌+◌, ◌*◌, ◌≤◌, ◌<◌, leb, take}
use Rattle.std.proofs.Math.Dec.{nleb→lt}
use Rattle.std.proofs.Math.ListN.{length, get_or, drop}
use Rattle.std.proofs.Math.Seq.{take_at, get_or_at}
use Rattle.rules_types.specs.declared.limits.Limits.{Limits}
use Rattle.rules_types.specs.Limits as limit
use Rattle.rules.specs.Lines as rules
use Rattle.rules.specs.Lines.{rational}
use Rattle.rules.specs.Steps.{Step}
use Rattle.rules.specs.Elimination.{State, running, empty, overflow, out_of_steps, Run, limited, order_by, remaining, rationals_after}
use Rattle.rules.specs.Elimination.{order_after, pick, round_pairs, try_all, chosen_rounds, other_rounds}
use Rattle.theory_lists.specs.Tests.{split}
use Rattle.theory_lists.specs.Places.{place-below}
use Rattle.theory_saturation.specs.Rounds.{At, at-unique, at_drop}
use Rattle.theory_saturation.specs.Order.{Ordered, rising, rational-at}
use Rattle.theory_saturation.specs.Taken.{Taken, taken_more, taken-ordered, taken_next, none-taken, rising-after, after-count}
use Rattle.lines.specs.declared.order.Order.{Order}
use Rattle.lines.specs.declared.order.Variable.{Variable}
use Rattle.lines.specs.declared.order.Round.TheVariants.{Of, End}
use Rattle.lines.specs.Order.{variable_of, variables_of, IsRound}
use Rattle.steps.specs.Held.{steps_in}
use Rattle.placing.specs.declared.point.Progress.{Progress}
use Rattle.placing.specs.declared.point.Progress.TheVariants.{Running, Empty, Overflow, OutOfSteps}
use Rattle.placing.specs.declared.point.Point.{Point}
use Rattle.placing.specs.Point.{state_of, state_at, Standing, Leads, leads-none, leads-trans, is_running, Reaches}
use Rattle.rounds.specs.Round.{after_round}
use Rattle.rounds.specs.Ahead.{Ahead, ahead-start, ahead-chosen, ahead-other, ahead-ended, ahead-done}

-- what the rounds come to, of r rational variables: those chosen, and all
abbrev pub chosen_from : Limits → ℕ → List ℕ → Point → Run
chosen_from limits r proof p = chosen_rounds (limited limits) r r [] (state_at proof p)

abbrev pub all_rounds : Limits → ℕ → List ℕ → Point → State
all_rounds limits r proof p = other_rounds (limited limits) r (chosen_from limits r proof p)

-- an order in which these are taken
pub record Took (r : ℕ) (taken : List ℕ) (order : Order) : Type 0 where
  pub is : order.rationals ≡ rationals_after taken
  pub apart : Taken r taken

module _ (r : ℕ) (few : r ≤ limit.rationals) where
  pub took-ordered : (taken : List ℕ) (order : Order) → Took r taken order → Ordered (variables_of order)
  unfolding variables_of order_after
  took-ordered taken order t =
      subst⁻¹ (λ (fs : List ℕ). Ordered (order_by fs)) t.is (taken-ordered taken (taken_more r limit.rationals taken few t.apart))

  -- behind t that are taken
  took-front : (taken : List ℕ) (order : Order) → Took r taken order → (t : ℕ) → length taken ≡ t → take t order.rationals ≡ taken
  unfolding rationals_after
  took-front taken order k t e = ap (take t) k.is ∙ take_at taken (remaining limit.rationals taken) t e

-- ---- the order for round t
-- what choosing asks of the order before
abbrev pub Choosable : ℕ → ℕ → Order → Type 0
Choosable r t order = t < r → Taken r (take t order.rationals) × (order.rationals ≡ rationals_after (take t order.rationals))

-- one of the problem's rational variables is chosen for it, or the order stays
abbrev pub OrderFor : ℕ → ℕ → List Step → Order → Order → Type 0
OrderFor r t steps order o =
    (t < r → o.rationals ≡ rationals_after (take t order.rationals ++ (pick r (take t order.rationals) steps ∷ [])))
    × (r ≤ t → o ≡ order)

-- ---- before round t
pub record AtRound (r : ℕ) (limits : Limits) (start : List ℕ) (from : Point) (order : Order) (proof : List ℕ) (p : Point) (t : ℕ)
    : Type 0 where
  pub leads : Leads limits start from.steps proof p.steps
  pub counted : p.pairs ≤ from.pairs + limit.most_steps * limit.most_steps * t
  pub few : t ≤ limit.rounds
  pub taken : List ℕ
  pub took : Took r taken order
  pub ahead : Ahead (limited limits) r (chosen_from limits r start from) taken t (state_at proof p)

-- what the rounds come to: the state, and the order that was taken
pub record AllRounds (r : ℕ) (limits : Limits) (start : List ℕ) (from : Point) (order : Order) (proof : List ℕ) (p : Point) : Type 0 where
  pub reaches : Reaches limits start from proof p (all_rounds limits r start from)
  pub order_is : order.rationals ≡ rationals_after (chosen_from limits r start from).taken

module _ (r : ℕ) (small : r ≤ limit.rationals) {limits : Limits} {start : List ℕ} {from : Point} where
  pub rounds-start : (order : Order) → order.rationals ≡ rising → Standing limits start from.steps
      → AtRound r limits start from order start from 0
  rounds-start order e s = record {
    leads = leads-none s;
    counted = omega arith;
    few = omega arith;
    taken = [];
    took = record { is = e ∙ sym rising-after; apart = none-taken r };
    ahead = ahead-start (limited limits) r (state_at start from);
  }

  module _ {order : Order} {proof : List ℕ} {p : Point} {t : ℕ} (at : AtRound r limits start from order proof p t) where
    abbrev whole : Run
    whole = chosen_from limits r start from

    -- so many are taken while some are to be chosen
    taken-so-many : t < r → length at.taken ≡ t
    taken-so-many h = ⊎_elim (λ c. c.long) (λ a. absurd (omega (arith, a.late))) at.ahead

    front : t < r → take t order.rationals ≡ at.taken
    front h = took-front r small at.taken order at.took t (taken-so-many h)

    pub choosable : Choosable r t order
    choosable h = subst⁻¹ (λ (taken : List ℕ). Taken r taken × (order.rationals ≡ rationals_after taken)) (front h)
        (at.took.apart, at.took.is)

    -- an end stays
    pub rounds-stay : is_running p.progress ≡ false → AllRounds r limits start from order proof p
    unfolding state_at state_of
    rounds-stay g =
        let d = by p.progress g at.ahead in
        record { reaches = record { is = d.0; leads = at.leads }; order_is = at.took.is ∙ ap rationals_after d.1 }
      where
        by : (x : Progress) → is_running x ≡ false
            → Ahead (limited limits) r whole at.taken t (state_of x (steps_in proof p.steps) p.pairs)
            → (state_of x (steps_in proof p.steps) p.pairs ≡ other_rounds (limited limits) r whole) × (at.taken ≡ whole.taken)
        by Running g a = absurd (let z : ◌≡◌ {A = ℕ} 0 1 = cc in omega arith)
        by Empty g a = ahead-ended (limited limits) r whole at.taken t empty (steps_in proof p.steps) p.pairs a
        by Overflow g a = ahead-ended (limited limits) r whole at.taken t overflow (steps_in proof p.steps) p.pairs a
        by OutOfSteps g a = ahead-ended (limited limits) r whole at.taken t out_of_steps (steps_in proof p.steps) p.pairs a

    module _ (o : Order) (for : OrderFor r t (steps_in proof p.steps) order o) where
      abbrev steps : List Step
      steps = steps_in proof p.steps

      -- the order for the round, and what is ahead behind it
      pub record Chose : Type 0 where
        pub taken : List ℕ
        pub took : Took r taken o
        pub next : (v : rules.Variable) → At (variables_of o) t v → p.progress ≡ Running
            → Ahead (limited limits) r whole taken (t + 1)
            (try_all (limited limits) v (round_pairs (variables_of o) v t steps) (running steps p.pairs))
        pub done : limit.rounds ≤ t → (state_at proof p ≡ other_rounds (limited limits) r whole) × (taken ≡ whole.taken)

      as-running : p.progress ≡ Running → Ahead (limited limits) r whole at.taken t (running steps p.pairs)
      unfolding state_at state_of
      as-running g = subst (λ (x : Progress). Ahead (limited limits) r whole at.taken t (state_of x steps p.pairs)) g at.ahead

      stands : (f : ℕ) → o.rationals ≡ rationals_after (at.taken ++ (f ∷ [])) → Taken r (at.taken ++ (f ∷ [])) → t < r
          → At (order_by o.rationals) t (rational f)
      unfolding rationals_after
      stands f is apart h =
          let next = at.taken ++ (f ∷ []) in
          let rest = remaining limit.rationals next in
          let here : get_or o.rationals t 0 ≡ f =
          ap (λ (fs : List ℕ). get_or fs t 0) (is ∙ append_assoc at.taken (f ∷ []) rest)
          ∙ get_or_at at.taken f rest 0 t (taken-so-many h) in
          let long : length o.rationals ≡ limit.rationals =
          ap length is ∙ after-count next (taken_more r limit.rationals next small apart) in
          subst (λ (g : ℕ). At (order_by o.rationals) t (rational g)) here (rational-at o.rationals t (omega (arith, long)))

      chosen-here : t < r → Chose
      unfolding variables_of order_after
      chosen-here h =
          let f = pick r at.taken steps in
          let next = at.taken ++ (f ∷ []) in
          let is : o.rationals ≡ rationals_after next = for.0 h
          ∙ ap (λ (taken : List ℕ). rationals_after (taken ++ (pick r taken steps ∷ []))) (front h) in
          let apart = taken_next r at.taken steps at.took.apart (omega (arith, taken-so-many h)) in
          let k : Took r next o = record { is = is; apart = apart } in
          record {
            taken = next;
            took = k;
            next = λ v a g.
                let same = at-unique (order_by o.rationals) t v (rational f) a (stands f is k.apart h) in
                subst⁻¹ (λ (w : rules.Variable). Ahead (limited limits) r whole next (t + 1)
                (try_all (limited limits) w (round_pairs (order_by o.rationals) w t steps) (running steps p.pairs))) same
                (subst⁻¹ (λ (fs : List ℕ). Ahead (limited limits) r whole next (t + 1)
                (try_all (limited limits) (rational f) (round_pairs (order_by fs) (rational f) t steps) (running steps p.pairs))) is
                (ahead-chosen (limited limits) r whole at.taken t steps p.pairs h (as-running g)));
            done = λ l. absurd (omega (arith, l));
          }

      kept_here : r ≤ t → Chose
      unfolding variables_of order_after
      kept_here h =
          let same = for.1 h in
          let k : Took r at.taken o = subst⁻¹ (Took r at.taken) same at.took in
          let ordered = took-ordered r small at.taken o k in
          record {
            taken = at.taken;
            took = k;
            next = λ v a g.
                subst⁻¹ (λ (fs : List ℕ). Ahead (limited limits) r whole at.taken (t + 1)
                (try_all (limited limits) v (round_pairs (order_by fs) v t steps) (running steps p.pairs))) k.is
                (ahead-other (limited limits) r whole at.taken t steps p.pairs v h (as-running g)
                (subst (λ (fs : List ℕ). drop t (order_by fs) ≡ v ∷ drop (suc t) (order_by fs)) k.is
                (at_drop (order_by o.rationals) t v a)));
            done = λ l. ahead-done (limited limits) r whole at.taken t (state_at proof p) (omega (arith, l))
                (omega (arith, l, subst (λ (fs : List ℕ). length (order_by fs) ≡ limit.rounds) k.is ordered.count)) at.ahead;
          }

      pub chose : Chose
      chose = ⊎_elim (λ h. kept_here (leb→le r t h)) (λ h. chosen-here (nleb→lt r t h)) (split (leb r t))

      -- the order is one of rounds
      pub chose-ordered : Ordered (variables_of o)
      chose-ordered = took-ordered r small chose.taken o chose.took

      pub rounds-next : (v : Variable) → IsRound (variables_of o) t (Of v) → p.progress ≡ Running → {after : List ℕ} {q : Point}
          → Reaches limits proof p after q (after_round limits (record { order = o; number = t; variable = v }) proof p)
          → q.pairs ≤ p.pairs + limit.most_steps * limit.most_steps
          → AtRound r limits start from o after q (t + 1)
      rounds-next v is going {after} {q} reaches c =
          record {
            leads = leads-trans at.leads reaches.leads;
            counted = omega (arith, at.counted, c);
            few = omega (arith, place-below (λ w. w ≡ variable_of v) (variables_of o) t is.1, chose-ordered.count);
            taken = chose.taken;
            took = chose.took;
            ahead = subst⁻¹ (Ahead (limited limits) r whole chose.taken (t + 1)) reaches.is
                (chose.next (variable_of v) is.1 going);
          }

      pub rounds-done : IsRound (variables_of o) t End → AllRounds r limits start from o proof p
      rounds-done h =
          let d = chose.done h in
          record {
            reaches = record { is = d.0; leads = at.leads };
            order_is = chose.took.is ∙ ap rationals_after d.1;
          }
