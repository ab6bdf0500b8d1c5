-- The cheapest of those that remain, by their places in the order; and the order with it in its round.
use Rattle.std.specs.Prelude.{◌≡◌, Bool, true, false, not, ℤ, eqb, length}
use Rattle.std.proofs.Math.Path.{sym, ap, subst⁻¹}
use Rattle.std.proofs.Common.{◌∙◌, take_at, drop-cons, drop-drop, length-take-le}
use mathlib.Core.List.{List, [], ◌∷◌, ◌++◌, append_assoc}
use Prim.Native.Nat.{ℕ, suc, ◌+◌, ◌-◌, ◌≤◌, ◌<◌}
use native.Mathlib.Omega.{arith}
use Rattle.std.specs.Int.Signed.{lt_z}
use Rattle.std.proofs.Math.ListN.{length-drop, get_or, take, drop}
use Rattle.std.proofs.Math.Seq.{drop_at, get_or-drop}
use Rattle.rules_types.specs.Limits as limit
use Rattle.rules.specs.Lists.{any, filter, tabulate}
use Rattle.rules.specs.Steps.{Step}
use Rattle.rules.specs.Elimination.{remaining, rationals_after, cost, cheapest, pick}
use Rattle.theory_lists.specs.All.{filter-append}
use Rattle.theory_lists.specs.Tabulated.{tabulate-front}
use Rattle.theory_lists.specs.Distinct.{other, AllDistinct, without-place, ascending-distinct}
use Rattle.theory_saturation.specs.Taken.{Taken, remaining-ascending, remaining-count, remaining-next}
use Rattle.lines.specs.Order.{moved_to}

-- ---- those of the problem stand first among all that remain
remaining-more : (n m : ℕ) (taken : List ℕ) → n ≤ m → (more : List ℕ) × (remaining m taken ≡ remaining n taken ++ more)
unfolding remaining
remaining-more n m taken h =
    let test : ℕ → Bool = λ f. not (any (eqb f) taken) in
    let front = tabulate-front n m (λ f. f) h in
    (filter test front.0, ap (filter test) front.1 ∙ filter-append test (tabulate n (λ f. f)) front.0)

-- of the places from t on, those before j are looked at, and the cheapest of them is at `best`
pub record Looked (fs : List ℕ) (t r : ℕ) (steps : List Step) (best j : ℕ) : Type 0 where
  pub from : t ≤ best
  pub before : best < j
  pub within : j ≤ r
  pub same : pick r (take t fs) steps ≡ cheapest (cost (take t fs) steps) (get_or fs best 0) (take (r - j) (drop j fs))

-- an order of rounds in which t are taken
module _ (fs : List ℕ) (t : ℕ) (is : fs ≡ rationals_after (take t fs)) (long : length fs ≡ limit.rationals) where
  abbrev taken : List ℕ
  taken = take t fs

  behind : t ≤ limit.rationals → drop t fs ≡ remaining limit.rationals taken
  unfolding rationals_after
  behind h = ap (drop t) is ∙ drop_at taken (remaining limit.rationals taken) t (length-take-le t fs (omega (arith, long)))

  module _ (r : ℕ) (few : r ≤ limit.rationals) (more : t < r) (apart : Taken r taken) where
    rest-is : take (r - t) (drop t fs) ≡ remaining r taken
    rest-is =
        let m = remaining-more r limit.rationals taken few in
        let all : drop t fs ≡ remaining r taken ++ m.0 = behind (omega arith) ∙ m.1 in
        let many : length (remaining r taken) ≡ r - t =
        omega (arith, remaining-count r taken apart, length-take-le t fs (omega (arith, long))) in
        ap (take (r - t)) all ∙ take_at (remaining r taken) m.0 (r - t) many

    -- place j and what is behind it
    place : (j : ℕ) → j < r → take (r - j) (drop j fs) ≡ get_or fs j 0 ∷ take (r - (j + 1)) (drop (j + 1) fs)
    place j h =
        let one : r - j ≡ suc (r - (j + 1)) = omega arith in
        let next : suc j ≡ j + 1 = omega arith in
        ap (λ (k : ℕ). take k (drop j fs)) one ∙ ap (take (suc (r - (j + 1)))) (drop-cons fs j 0 (omega (arith, long)))
        ∙ ap (λ (k : ℕ). get_or fs j 0 ∷ take (r - (j + 1)) (drop k fs)) next

    module _ (steps : List Step) where
      abbrev price : ℕ → ℤ
      price = cost taken steps

      pub looked-first : Looked fs t r steps t (t + 1)
      unfolding pick
      looked-first = record {
        from = omega arith;
        before = omega arith;
        within = omega arith;
        same = ap (λ (l : List ℕ). elim l [ [] ↦ 0 | f ∷ gs ↦ cheapest price f gs ]) (sym rest-is ∙ place t more);
      }

      step : (best j : ℕ) → j < r → cheapest price (get_or fs best 0) (take (r - j) (drop j fs))
          ≡ elim (lt_z (price (get_or fs j 0)) (price (get_or fs best 0))) [
            | true ↦ cheapest price (get_or fs j 0) (take (r - (j + 1)) (drop (j + 1) fs))
            | false ↦ cheapest price (get_or fs best 0) (take (r - (j + 1)) (drop (j + 1) fs))
          ]
      unfolding cheapest
      step best j h = ap (cheapest price (get_or fs best 0)) (place j h)

      pub looked-cheaper : (best j : ℕ) → Looked fs t r steps best j → j < r
          → lt_z (price (get_or fs j 0)) (price (get_or fs best 0)) ≡ true
          → Looked fs t r steps j (j + 1)
      looked-cheaper best j l h e = record {
        from = omega (arith, l.from, l.before);
        before = omega arith;
        within = omega arith;
        same = l.same ∙ step best j h ∙ ap (λ (b : Bool). elim b [
          | true ↦ cheapest price (get_or fs j 0) (take (r - (j + 1)) (drop (j + 1) fs))
          | false ↦ cheapest price (get_or fs best 0) (take (r - (j + 1)) (drop (j + 1) fs))
        ]) e;
      }

      pub looked-other : (best j : ℕ) → Looked fs t r steps best j → j < r → lt_z (price (get_or fs j 0)) (price (get_or fs best 0)) ≡ false
          → Looked fs t r steps best (j + 1)
      looked-other best j l h e = record {
        from = l.from;
        before = omega (arith, l.before);
        within = omega arith;
        same = l.same ∙ step best j h ∙ ap (λ (b : Bool). elim b [
          | true ↦ cheapest price (get_or fs j 0) (take (r - (j + 1)) (drop (j + 1) fs))
          | false ↦ cheapest price (get_or fs best 0) (take (r - (j + 1)) (drop (j + 1) fs))
        ]) e;
      }

      -- the order with the one at `best` moved
      moved-is : (best : ℕ) → t ≤ best → best < r → moved_to best t fs ≡ rationals_after (taken ++ (get_or fs best 0 ∷ []))
      unfolding moved_to rationals_after
      moved-is best h l =
          let k = best - t in
          let g = get_or fs best 0 in
          let xs = drop t fs in
          let at : t + k ≡ best = omega arith in
          let next : t + suc k ≡ suc best = omega arith in
          let here : get_or xs k 0 ≡ g = get_or-drop t fs k 0 ∙ ap (λ (i : ℕ). get_or fs i 0) at in
          let left : filter (other g) xs ≡ take k xs ++ drop (suc best) fs =
          ap (λ (f : ℕ). filter (other f) xs) (sym here)
          ∙ without-place xs k (subst⁻¹ AllDistinct (behind (omega arith)) (ascending-distinct (remaining limit.rationals taken)
          (remaining-ascending limit.rationals taken))) (omega (arith, long, length-drop t fs))
          ∙ ap (λ (ys : List ℕ). take k xs ++ ys) (drop-drop (suc k) t fs ∙ ap (λ (i : ℕ). drop i fs) next) in
          sym (append_assoc taken (g ∷ []) (remaining limit.rationals (taken ++ (g ∷ [])))
          ∙ ap (λ (ys : List ℕ). taken ++ (g ∷ ys)) (remaining-next limit.rationals taken g
          ∙ ap (filter (other g)) (sym (behind (omega arith))) ∙ left))

      pub looked-last : (best : ℕ) → Looked fs t r steps best r → moved_to best t fs ≡ rationals_after (taken ++ (pick r taken steps ∷ []))
      unfolding cheapest
      looked-last best l =
          let none : r - r ≡ 0 = omega arith in
          moved-is best l.from l.before
          ∙ ap (λ (f : ℕ). rationals_after (taken ++ (f ∷ [])))
          (sym (l.same ∙ ap (λ (k : ℕ). cheapest price (get_or fs best 0) (take k (drop r fs))) none))
