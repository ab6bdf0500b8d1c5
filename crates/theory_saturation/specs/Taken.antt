-- The rational variables that a run takes are apart, and those of the problem; so its order is one of rounds.
use Rattle.std.specs.Prelude.{◌≡◌, Bool, ◌&&◌, ◌||◌, ℤ, eqb}
use Rattle.std.proofs.Math.Path.{refl, sym, ap}
use Rattle.std.proofs.Common.{◌∙◌, subst, ⊎_elim, arith}
use Rattle.std.proofs.Math.Bool.{true, false, not, or_comm}
use mathlib.Core.List.{List, [], ◌∷◌, ◌++◌}
use Prim.Native.Nat.{ℕ, zero, suc, ◌+◌, ◌≤◌, ◌<◌}
use Rattle.std.specs.Int.Signed.{lt_z}
use Rattle.std.proofs.Math.Dec.{T, eqb_refl}
use Rattle.std.proofs.Math.ListN.{length, length-append}
use Rattle.rules_types.specs.Limits as limit
use Rattle.rules.specs.Lists.{any, filter, tabulate}
use Rattle.rules.specs.Problem.{Problem}
use Rattle.rules.specs.Steps.{Step}
use Rattle.rules.specs.Elimination.{Stops, State, running, ended, order_by, remaining, rationals_after, order_after, cost, cheapest, pick}
use Rattle.rules.specs.Elimination.{unlimited, chosen_rounds, loadable_of, load, chosen_run, order_of}
use Rattle.theory_lists.specs.Tests.{split, or_l, or_r}
use Rattle.theory_lists.specs.All.{All, all_append, all_map, filter-all, yes-any}
use Rattle.theory_lists.specs.Tabulated.{length-tabulate, all-tabulate, any-tabulate}
use Rattle.theory_lists.specs.Scan.{any_append, any_snoc}
use Rattle.theory_lists.specs.Distinct.{filter-agree, filter-both, filter-has, other, AllDistinct, distinct_append}
use Rattle.theory_lists.specs.Distinct.{length_without, Ascending, ascending-filter, ascending-tabulate, ascending-distinct}
use Rattle.theory_saturation.specs.Order.{Ordered, rising, ordered-by}

-- apart, and below n
pub record Taken (n : ℕ) (taken : List ℕ) : Type 0 where
  pub below : All (λ f. f < n) taken
  pub distinct : AllDistinct taken

-- ---- those that remain
module _ (n : ℕ) where
  pub remaining-ascending : (taken : List ℕ) → Ascending (remaining n taken)
  unfolding remaining
  remaining-ascending taken =
      ascending-filter (λ f. not (any (eqb f) taken)) (tabulate n (λ f. f)) (ascending-tabulate n (λ f. f) (λ i j h. h))

  pub remaining-all : (taken : List ℕ) → All (λ f. f < n × T (not (any (eqb f) taken))) (remaining n taken)
  unfolding remaining
  remaining-all taken = filter-all _ (λ f. not (any (eqb f) taken)) (tabulate n (λ f. f))
      (all-tabulate (λ f. T (not (any (eqb f) taken)) → f < n × T (not (any (eqb f) taken))) n (λ f. f) (λ i h k. (h, k)))

  pub remaining-has : (taken : List ℕ) (f : ℕ) → f < n → T (not (any (eqb f) taken)) → T (any (eqb f) (remaining n taken))
  unfolding remaining
  remaining-has taken f h k = filter-has (λ g. not (any (eqb g) taken)) f (tabulate n (λ g. g)) k
      (yes-any (eqb f) (tabulate n (λ g. g)) (any-tabulate (λ g. T (eqb f g)) n (λ g. g) f h (eqb_refl f)))

  -- one more is taken, wherever it stands
  remaining-more : (taken more : List ℕ) (f : ℕ) → ((g : ℕ) → any (eqb g) more ≡ any (eqb g) taken || eqb g f)
      → remaining n more ≡ filter (other f) (remaining n taken)
  unfolding remaining
  remaining-more taken more f has =
      filter-agree (λ g. not (any (eqb g) more)) (λ g. not (any (eqb g) taken) && not (eqb g f))
      (λ g. ap not (has g) ∙ neither (any (eqb g) taken) (eqb g f)) (tabulate n (λ g. g))
      ∙ sym (filter-both (other f) (λ g. not (any (eqb g) taken)) (tabulate n (λ g. g)))
    where
      neither : (a b : Bool) → not (a || b) ≡ not a && not b
      neither true b = refl
      neither false b = refl

  pub remaining-next : (taken : List ℕ) (f : ℕ) → remaining n (taken ++ (f ∷ [])) ≡ filter (other f) (remaining n taken)
  remaining-next taken f = remaining-more taken (taken ++ (f ∷ [])) f (λ g. any_snoc (eqb g) taken f)

  remaining-cons : (taken : List ℕ) (f : ℕ) → remaining n (f ∷ taken) ≡ filter (other f) (remaining n taken)
  unfolding any
  remaining-cons taken f = remaining-more taken (f ∷ taken) f (λ g. or_comm (eqb g f) (any (eqb g) taken))

  every_one : (s : List ℕ) → filter (λ f. not (any (eqb f) [])) s ≡ s
  unfolding any filter
  every_one [] = refl
  every_one (f ∷ s) = ap (λ (l : List ℕ). f ∷ l) (every_one s)

  pub remaining-count : (taken : List ℕ) → Taken n taken → length taken + length (remaining n taken) ≡ n
  unfolding remaining
  remaining-count [] t = omega (arith, ap length (every_one (tabulate n (λ f. f))), length-tabulate n (λ f. f))
  remaining-count (f ∷ taken) t =
      let more = remaining-count taken (record { below = t.below.1; distinct = t.distinct.1 }) in
      let less = length_without f (remaining n taken) (ascending-distinct (remaining n taken) (remaining-ascending taken))
      (remaining-has taken f t.below.0 t.distinct.0) in
      omega (arith, more, less, ap length (remaining-cons taken f))

-- ---- the order
pub taken_more : (n m : ℕ) (taken : List ℕ) → n ≤ m → Taken n taken → Taken m taken
taken_more n m taken h t =
    record { below = all_map (λ f. f < n) (λ f. f < m) taken (λ f k. omega (arith, h, k)) t.below; distinct = t.distinct }

module _ (taken : List ℕ) (t : Taken limit.rationals taken) where
  pub after-count : length (rationals_after taken) ≡ limit.rationals
  unfolding rationals_after
  after-count = length-append taken (remaining limit.rationals taken) ∙ remaining-count limit.rationals taken t

  pub after-distinct : AllDistinct (rationals_after taken)
  unfolding rationals_after
  after-distinct =
      let rest = remaining limit.rationals taken in
      distinct_append taken rest t.distinct (ascending-distinct rest (remaining-ascending limit.rationals taken))
      (all_map (λ f. f < limit.rationals × T (not (any (eqb f) taken))) (λ f. T (not (any (eqb f) taken))) rest (λ f h. h.1)
      (remaining-all limit.rationals taken))

  pub taken-ordered : Ordered (order_after taken)
  unfolding order_after rationals_after
  taken-ordered = ordered-by (rationals_after taken) after-count below after-distinct each
    where
      rest : List ℕ
      rest = remaining limit.rationals taken

      below : All (λ f. f < limit.rationals) (taken ++ rest)
      below = all_append (λ f. f < limit.rationals) taken rest t.below
          (all_map (λ f. f < limit.rationals × T (not (any (eqb f) taken))) (λ f. f < limit.rationals) rest (λ f h. h.0)
          (remaining-all limit.rationals taken))

      each : (f : ℕ) → f < limit.rationals → T (any (eqb f) (taken ++ rest))
      each f h = rw (any_append (eqb f) taken rest)
          (⊎_elim (λ k. or_l (any (eqb f) taken) (any (eqb f) rest) k)
          (λ k. or_r (any (eqb f) taken) (any (eqb f) rest) (remaining-has limit.rationals taken f h k)) (split (any (eqb f) taken)))

-- where none is taken they go by their numbers
pub rising-after : rationals_after [] ≡ rising
unfolding rationals_after remaining any filter tabulate
rising-after = refl

pub none-taken : (n : ℕ) → Taken n []
none-taken n = record { below = tt; distinct = tt }

pub rising-ordered : Ordered (order_by rising)
unfolding order_after
rising-ordered = subst (λ (fs : List ℕ). Ordered (order_by fs)) rising-after (taken-ordered [] (none-taken limit.rationals))

-- ---- what is picked
cheapest-all : (P : ℕ → Type 0) (price : ℕ → ℤ) (f : ℕ) (fs : List ℕ) → P f → All P fs → P (cheapest price f fs)
unfolding cheapest
cheapest-all P price f [] h k = h
cheapest-all P price f (g ∷ gs) h k =
    by (lt_z (price g) (price f)) (cheapest-all P price g gs k.0 k.1) (cheapest-all P price f gs h k.1)
  where
    by : (b : Bool) → P (cheapest price g gs) → P (cheapest price f gs)
        → P (elim b [ true ↦ cheapest price g gs | false ↦ cheapest price f gs ])
    by true x y = x
    by false x y = y

-- one of those that remain, where one does
pub pick_all : (P : ℕ → Type 0) (r : ℕ) (taken : List ℕ) (steps : List Step) → 0 < length (remaining r taken) → All P (remaining r taken)
    → P (pick r taken steps)
unfolding pick
pick_all P r taken steps = by (remaining r taken)
  where
    by : (rest : List ℕ) → 0 < length rest → All P rest
        → P (elim rest [ [] ↦ 0 | f ∷ fs ↦ cheapest (cost taken steps) f fs ])
    by [] h k = absurd (omega arith)
    by (f ∷ fs) h k = cheapest-all P (cost taken steps) f fs k.0 k.1

pub taken_next : (r : ℕ) (taken : List ℕ) (steps : List Step) → Taken r taken → length taken < r
    → Taken r (taken ++ (pick r taken steps ∷ []))
unfolding any
taken_next r taken steps t h =
    let some_left : 0 < length (remaining r taken) = omega (arith, remaining-count r taken t) in
    let new = pick_all (λ f. f < r × T (not (any (eqb f) taken))) r taken steps some_left (remaining-all r taken) in
    record {
      below = all_append (λ f. f < r) taken (pick r taken steps ∷ []) t.below (new.0, tt);
      distinct = distinct_append taken (pick r taken steps ∷ []) t.distinct (tt, tt) (new.1, tt);
    }

-- ---- of a run
pub run-taken : (stops : Stops) (r k : ℕ) (taken : List ℕ) (state : State) → Taken r taken → length taken + k ≤ r
    → Taken r (chosen_rounds stops r k taken state).taken
unfolding chosen_rounds
run-taken stops r zero taken state t h = t
run-taken stops r (suc k) taken (ended e steps n) t h = t
run-taken stops r (suc k) taken (running steps n) t h =
    let f = pick r taken steps in
    let next = taken ++ (f ∷ []) in
    let more : length next + k ≤ r = omega (arith, length-append taken (f ∷ [])) in
    run-taken stops r k next _ (taken_next r taken steps t (omega arith)) more

-- the order that an elimination under any stops takes
pub run-ordered : (stops : Stops) (p : Problem) → p.rationals ≤ limit.rationals → Ordered (order_after (chosen_run stops p).taken)
unfolding chosen_run
run-ordered stops p h =
    let r = p.rationals in
    let taken = (chosen_rounds stops r r [] (load stops (loadable_of p) (running [] 0))).taken in
    taken-ordered taken (taken_more r limit.rationals taken h
    (run-taken stops r r [] (load stops (loadable_of p) (running [] 0)) (none-taken r) (omega arith)))

pub problem-ordered : (p : Problem) → p.rationals ≤ limit.rationals → Ordered (order_of p)
unfolding order_of
problem-ordered p h = run-ordered unlimited p h
