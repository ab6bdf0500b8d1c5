-- A round: each of its uppers with each of its lowers; what is left at each point comes to what the round comes to.
use Rattle.std.specs.Prelude.{◌≡◌, Bool, ◌&&◌, ℕ, suc, ◌+◌, ◌*◌, ◌≤◌, ◌<◌, eqb}
use Rattle.std.proofs.Math.Path.{sym, ap}
use Rattle.std.proofs.Common.{◌∙◌}
use Rattle.std.proofs.Math.Bool.{true, false}
use mathlib.Core.List.{List, ◌∷◌}
use native.Mathlib.Omega.{arith}
use Rattle.std.proofs.Math.Facts.{and_yes}
use Rattle.rules_types.specs.declared.limits.Limits.{Limits}
use Rattle.rules_types.specs.Limits as limit
use Rattle.rules.specs.Lines as rules
use Rattle.rules.specs.Needs.{pairs_of}
use Rattle.rules.specs.Resolve.{resolve}
use Rattle.rules.specs.Elimination.{State, running, limited, round_of, Pair, round_pairs, tried, try_all}
use Rattle.lines.specs.Line.{meaning}
use Rattle.theory_lists.specs.Tests.{is_true, of-true}
use Rattle.theory_elimination.specs.States.{try-ended}
use Rattle.theory_elimination.specs.PairBound.{tried-pairs}
use Rattle.steps.specs.Lines.{line_at}
use Rattle.placing.specs.declared.point.Progress.TheVariants.{Running}
use Rattle.placing.specs.declared.point.Point.{Point}
use Rattle.steps.specs.Held.{steps_in}
use Rattle.placing.specs.Point.{state_of, state_at, Standing, Leads, leads-none, leads-trans, pairs-at, is_running, running-yes}
use Rattle.placing.specs.Point.{ended-stays}
use Rattle.placing.specs.Point.{Reaches}
use Rattle.lines.specs.declared.order.VariableRound.{VariableRound}
use Rattle.lines.specs.Order.{variable_of, variables_of, Ranged}
use Rattle.rounds.specs.Sides.{on_side, chosen, Next}
use Rattle.rounds.specs.Pairs.{pair_of, resolvent_of, Pairable, tried_pair}
use Rattle.rounds.specs.declared.pair.Parents.{Parents}
use Rattle.rounds.specs.Left.{later, within, later-all, later-upper, later-end, within-lower, within_end, later-next, within-next}
use Rattle.rounds.specs.Left.{line_same, next-same}

chosen-side : (upper : Bool) (current : VariableRound) (l : rules.Line) → chosen upper current l ≡ true
    → on_side upper (variable_of current.variable) l ≡ true
unfolding chosen
chosen-side upper current l e =
    let side = on_side upper (variable_of current.variable) l in
    let mine = eqb (round_of (variables_of current.order) l) current.number in
    is_true side (and_yes side mine (of-true (side && mine) e)).0

-- ---- a point of the round
module _ (limits : Limits) (current : VariableRound) (start : List ℕ) (from : Point) where
  abbrev v : rules.Variable
  v = variable_of current.variable

  -- the whole round
  abbrev pub after_round : State
  after_round = try_all (limited limits) v
      (round_pairs (variables_of current.order) v current.number (steps_in start from.steps))
      (running (steps_in start from.steps) from.pairs)

  -- these pairs are left, and so many at most were tried
  pub record Underway (proof : List ℕ) (p : Point) (left : List Pair) (count : ℕ) : Type 0 where
    pub leads : Leads limits start from.steps proof p.steps
    pub counted : p.pairs ≤ from.pairs + count
    pub same : try_all (limited limits) v left (state_at proof p) ≡ after_round

  abbrev pub later_uppers : ℕ → List Pair
  later_uppers i = later start from.steps current i

  abbrev pub later_lowers : ℕ → ℕ → List Pair
  later_lowers i j = within start from.steps current i j

  abbrev pub is_chosen : Bool → ℕ → Type 0
  is_chosen upper i = chosen upper current (meaning (line_at start i)) ≡ true

  pub underway-as : {proof : List ℕ} {p : Point} {left rest : List Pair} {c d : ℕ} → left ≡ rest → Underway proof p left c → c ≤ d
      → Underway proof p rest d
  underway-as {proof} {p} e r h = record {
    leads = r.leads;
    counted = omega (arith, r.counted);
    same = ap (λ (ps : List Pair). try_all (limited limits) v ps (state_at proof p)) (sym e) ∙ r.same;
  }

  -- at the two loops' tests: of the uppers, and of the lowers of upper i
  pub record AtUpper (proof : List ℕ) (p : Point) (i : ℕ) : Type 0 where
    pub going : p.progress ≡ Running
    pub underway : Underway proof p (later_uppers i) (limit.most_steps * i)
    pub few : i ≤ from.steps
    pub upper : i < from.steps → is_chosen true i

  pub record AtLower (proof : List ℕ) (p : Point) (i j : ℕ) : Type 0 where
    pub going : p.progress ≡ Running
    pub underway : Underway proof p (later_lowers i j) (limit.most_steps * i + j)
    pub few : j ≤ from.steps
    pub lower : j < from.steps → is_chosen false j

  module _ (standing : Standing limits start from.steps) where
    within_none : from.pairs ≤ from.pairs + 0
    within_none = omega arith

    pub upper_first : {i : ℕ} → from.progress ≡ Running
        → Next start from.steps (chosen true current) 0 i → AtUpper start from i
    unfolding state_at state_of
    upper_first g n =
        record {
          going = g;
          underway =
              underway-as (later-next start from.steps current n)
              (record {
                leads = leads-none standing;
                counted = within_none;
                same =
                    (λ x. try_all (limited limits) v (later-all start from.steps current x)
                    (state_of (g x) (steps_in start from.steps) from.pairs));
              })
              (omega arith);
          few = n.within;
          upper = n.passes;
        }

    module _ {proof : List ℕ} {p : Point} {i : ℕ} where
      pub upper-done : AtUpper proof p i → from.steps ≤ i → Reaches limits start from proof p after_round
      unfolding try_all
      upper-done r h =
          record {
            is = ap (λ (ps : List Pair). try_all (limited limits) v ps (state_at proof p))
                (sym (later-end start from.steps current i h)) ∙ r.underway.same;
            leads = r.underway.leads;
          }

      pub lower-first : {j : ℕ} → AtUpper proof p i → i < from.steps
          → Next start from.steps (chosen false current) 0 j → AtLower proof p i j
      lower-first r h n =
          record {
            going = r.going;
            underway = underway-as (later-upper start from.steps current i h (r.upper h)
                ∙ within-next start from.steps current i n) r.underway (omega arith);
            few = n.within;
            lower = n.passes;
          }

      pub upper-next : {j k : ℕ} → AtLower proof p i j → from.steps ≤ j → from.steps ≤ limit.most_steps
          → Next proof from.steps (chosen true current) (i + 1) k → AtUpper proof p k
      upper-next {j = j} r h f n =
          let at = next-same r.underway.leads standing.held.room n in
          record {
            going = r.going;
            underway = underway-as (within_end start from.steps current i j h
                ∙ later-next start from.steps current at) r.underway (omega (arith, at.behind, r.few));
            few = at.within;
            upper = at.passes;
          }

    -- one pair more
    module _ {proof : List ℕ} {p : Point} {i j : ℕ} (r : AtLower proof p i j) (at-upper : i < from.steps) (upper : is_chosen true i)
        (at-lower : j < from.steps) where
      abbrev x : Parents
      x = record { variable = current.variable; upper = i; lower = j }

      same_line : (k : ℕ) → k < from.steps → line_at proof k ≡ line_at start k
      same_line = line_same r.underway.leads standing.held.room

      pub pairable : Ranged current.variable → limits.steps ≤ limit.most_steps → from.pairs ≤ 900000000000 → Pairable proof x p
      unfolding on_side
      pairable g f n =
          record {
            ranged = g;
            upper-held = omega (arith, r.underway.leads.grows);
            lower-held = omega (arith, r.underway.leads.grows);
            few = omega (arith, r.underway.leads.standing.few);
            countable = omega (arith, r.underway.counted, standing.few);
            upper = rw (same_line i at-upper) (chosen-side true current (meaning (line_at start i)) upper);
            lower = rw (same_line j at-lower) (chosen-side false current (meaning (line_at start j)) (r.lower at-lower));
          }

      module _ {after : List ℕ} {q : Point}
          (reaches : Reaches limits proof p after q (tried_pair limits proof x p)) where
        pub underway-pair : Underway after q (later_lowers i (j + 1)) (limit.most_steps * i + (j + 1))
        unfolding state_at state_of try_all
        underway-pair =
            let stops = limited limits in
            let steps = steps_in proof p.steps in
            let rest = later_lowers i (j + 1) in
            let tried_same : tried stops v (pair_of proof x) (resolvent_of proof x) steps (suc p.pairs)
            ≡ tried stops v (pair_of start x) (resolvent_of start x) steps (suc p.pairs) =
            (λ x.
            let u = meaning (same_line i at-upper x) in
            let l = meaning (same_line j at-lower x) in
            tried stops v (record { upper = record { number = i; line = u }; lower = record { number = j; line = l } }) (resolve v u l)
            steps (suc p.pairs)) in
            let before : try_all stops v (pair_of start x ∷ rest) (running steps p.pairs) ≡ after_round =
            (λ x. try_all stops v (sym (within-lower start from.steps current i j at-lower (r.lower at-lower)) x)
            (state_of (sym r.going x) steps p.pairs)) ∙ r.underway.same in
            record {
              leads = leads-trans r.underway.leads reaches.leads;
              counted = omega (
                arith,
                r.underway.counted,
                sym (pairs-at after q) ∙ ap pairs_of reaches.is
                    ∙ tried-pairs stops v (pair_of proof x) (resolvent_of proof x) steps (suc p.pairs),
              );
              same = ap (try_all stops v rest) (reaches.is ∙ tried_same) ∙ before;
            }

        pub lower-next : {k : ℕ} → is_running q.progress ≡ true
            → Next after from.steps (chosen false current) (j + 1) k → AtLower after q i k
        lower-next g n =
            let at = next-same underway-pair.leads standing.held.room n in
            record {
              going = running-yes q.progress g;
              underway = underway-as (within-next start from.steps current i at) underway-pair (omega (arith, at.behind));
              few = at.within;
              lower = at.passes;
            }

        -- an end stays
        pub round-ended : is_running q.progress ≡ false → Reaches limits start from after q after_round
        round-ended g =
            let rest = later_lowers i (j + 1) in
            record {
              is = ended-stays (try_all (limited limits) v rest)
                  (λ e steps n. try-ended (limited limits) e steps n v rest) after q g ∙ underway-pair.same;
              leads = underway-pair.leads;
            }

-- at the loop over the lowers of upper i, before it
pub record Entered (limits : Limits) (current : VariableRound) (m first : ℕ) (start : List ℕ) (from : Point) (proof : List ℕ)
    (p : Point) (i : ℕ) : Type 0 where
  pub steps : from.steps ≡ m
  pub standing : Standing limits start from.steps
  pub first-lower : Next start from.steps (chosen false current) 0 first
  pub at : AtUpper limits current start from proof p i
