-- Lists of numbers: none twice, or ascending; and what a filter leaves of them.
use Rattle.std.specs.Prelude.{◌≡◌, Bool, not, ◌&&◌, ◌||◌, ℕ, zero, suc, ◌+◌, ◌<◌, eqb, length, get_or, take, drop}
use Rattle.std.proofs.Math.Path.{refl, ap, subst⁻¹}
use Rattle.std.proofs.Common.{sym, ◌∙◌, subst, ⊎_elim, arith}
use Rattle.std.proofs.Math.Bool.{true, false}
use mathlib.Core.List.{List, [], ◌∷◌, ◌++◌}
use Rattle.std.proofs.Math.Dec.{T, eqb_refl}
use Rattle.std.proofs.Math.Facts.{eqb_yes, eqb_no, no_eqb}
use Rattle.rules.specs.Lists.{any, filter, tabulate}
use Rattle.theory_lists.specs.Tests.{split, is_true, is_false, of-true, of-false, or_l, or_r, or_else, nor, neither}
use Rattle.theory_lists.specs.All.{All, all_map, filter-all}
use Rattle.theory_lists.specs.Tabulated.{all-tabulate}
use Rattle.theory_lists.specs.Scan.{any_append}

-- ---- filters
module _ {A : Type 0} where
  pub filter-agree : (p q : A → Bool) → ((a : A) → p a ≡ q a) → (s : List A) → filter p s ≡ filter q s
  unfolding filter
  filter-agree p q e [] = refl
  filter-agree p q e (a ∷ s) = λ i. elim (e a i) [ true ↦ a ∷ filter-agree p q e s i | false ↦ filter-agree p q e s i ]

  -- the first element is kept, or not
  pub filter-yes : (p : A → Bool) (a : A) (s : List A) → T (p a) → filter p (a ∷ s) ≡ a ∷ filter p s
  unfolding filter
  filter-yes p a s h = rw (is_true (p a) h, filter)

  pub filter-no : (p : A → Bool) (a : A) (s : List A) → T (not (p a)) → filter p (a ∷ s) ≡ filter p s
  unfolding filter
  filter-no p a s h = rw (is_false (p a) h, filter)

  pub filter-both : (p q : A → Bool) (s : List A) → filter p (filter q s) ≡ filter (λ a. q a && p a) s
  unfolding filter
  filter-both p q [] = refl
  filter-both p q (a ∷ s) = by (q a) (p a) refl (filter-both p q s)
    where
      by : (b c : Bool) → p a ≡ c → filter p (filter q s) ≡ filter (λ x. q x && p x) s
          → filter p (elim b [ true ↦ a ∷ filter q s | false ↦ filter q s ])
          ≡ elim (b && c) [ true ↦ a ∷ filter (λ x. q x && p x) s | false ↦ filter (λ x. q x && p x) s ]
      by true true e h = filter-yes p a (filter q s) (of-true (p a) e) ∙ ap (λ (l : List A). a ∷ l) h
      by true false e h = filter-no p a (filter q s) (of-false (p a) e) ∙ h
      by false c e h = h

  pub filter_none : (p q : A → Bool) (s : List A) → T (not (any q s)) → T (not (any q (filter p s)))
  unfolding any filter
  filter_none p q [] h = tt
  filter_none p q (a ∷ s) h = let r = neither (q a) (any q s) h in by (p a) r.0 (filter_none p q s r.1)
    where
      by : (b : Bool) → T (not (q a)) → T (not (any q (filter p s)))
          → T (not (any q (elim b [ true ↦ a ∷ filter p s | false ↦ filter p s ])))
      by true h k = nor (q a) (any q (filter p s)) h k
      by false h k = k

-- ---- number n stands among them
pub filter-has : (p : ℕ → Bool) (n : ℕ) (s : List ℕ) → T (p n) → T (any (eqb n) s) → T (any (eqb n) (filter p s))
unfolding any filter
filter-has p n [] h k = k
filter-has p n (a ∷ s) h k = ⊎_elim here (there (λ z. filter-has p n s h z)) (split (eqb n a))
  where
    cons : (b : Bool) → T (any (eqb n) (filter p s)) → T (any (eqb n) (elim b [ true ↦ a ∷ filter p s | false ↦ filter p s ]))
    cons true z = or_r (eqb n a) (any (eqb n) (filter p s)) z
    cons false z = z

    here : T (eqb n a) → T (any (eqb n) (filter p (a ∷ s)))
    here e = subst⁻¹ (λ (l : List ℕ). T (any (eqb n) l)) (filter-yes p a s (subst (λ (m : ℕ). T (p m)) (eqb_yes e) h))
        (or_l (eqb n a) (any (eqb n) (filter p s)) e)

    there : (T (any (eqb n) s) → T (any (eqb n) (filter p s))) → T (not (eqb n a)) → T (any (eqb n) (filter p (a ∷ s)))
    there f e = cons (p a) (f (or_else (eqb n a) (any (eqb n) s) e k))

-- without number n
abbrev pub other : ℕ → ℕ → Bool
other n m = not (eqb m n)

-- ---- none twice
abbrev pub AllDistinct : List ℕ → Type 0
AllDistinct [] = Unit {0}
AllDistinct (n ∷ s) = T (not (any (eqb n) s)) × AllDistinct s

not-not : (b : Bool) → T b → T (not (not b))
not-not true h = tt
not-not false h = h

eqb-sym : (a b : ℕ) → T (not (eqb a b)) → T (not (eqb b a))
eqb-sym a b h = no_eqb {a = b} {b = a} (λ e. eqb_no {a = a} {b = b} h (sym e))

pub distinct_append : (s t : List ℕ) → AllDistinct s → AllDistinct t → All (λ n. T (not (any (eqb n) s))) t → AllDistinct (s ++ t)
unfolding any
distinct_append [] t h k f = k
distinct_append (a ∷ s) t h k f =
    let apart = all_map (λ n. T (not (eqb n a || any (eqb n) s))) (λ n. T (not (any (eqb n) s))) t
    (λ n z. (neither (eqb n a) (any (eqb n) s) z).1) f in
    (rw (any_append (eqb a) s t) (nor (any (eqb a) s) (any (eqb a) t) h.0 (none t f)), distinct_append s t h.1 k apart)
  where
    none : (t : List ℕ) → All (λ n. T (not (eqb n a || any (eqb n) s))) t → T (not (any (eqb a) t))
    none [] f = tt
    none (n ∷ t) f = nor (eqb a n) (any (eqb a) t) (eqb-sym n a (neither (eqb n a) (any (eqb n) s) f.0).0) (none t f.1)

-- one that is not there is not missed, one that is there is missed once
pub without-absent : (n : ℕ) (s : List ℕ) → T (not (any (eqb n) s)) → filter (other n) s ≡ s
unfolding any filter
without-absent n [] h = refl
without-absent n (a ∷ s) h =
    let r = neither (eqb n a) (any (eqb n) s) h in
    filter-yes (other n) a s (eqb-sym n a r.0) ∙ ap (λ (l : List ℕ). a ∷ l) (without-absent n s r.1)

pub length_without : (n : ℕ) (s : List ℕ) → AllDistinct s → T (any (eqb n) s) → suc (length (filter (other n) s)) ≡ length s
unfolding any filter
length_without n [] h k = absurd k
length_without n (a ∷ s) h k = ⊎_elim here (there (λ z. length_without n s h.1 z)) (split (eqb n a))
  where
    here : T (eqb n a) → suc (length (filter (other n) (a ∷ s))) ≡ suc (length s)
    here e =
        let same : n ≡ a = eqb_yes e in
        let same? : T (eqb a n) = subst (λ (m : ℕ). T (eqb m n)) same (eqb_refl n) in
        ap (λ (l : List ℕ). suc (length l)) (filter-no (other n) a s (not-not (eqb a n) same?)
        ∙ without-absent n s (subst (λ (m : ℕ). T (not (any (eqb m) s))) (sym same) h.0))

    there : (T (any (eqb n) s) → suc (length (filter (other n) s)) ≡ length s) → T (not (eqb n a))
        → suc (length (filter (other n) (a ∷ s))) ≡ suc (length s)
    there f e =
        ap (λ (l : List ℕ). suc (length l)) (filter-yes (other n) a s (eqb-sym n a e))
        ∙ ap suc (f (or_else (eqb n a) (any (eqb n) s) e k))

none-at : (p : ℕ → Bool) (s : List ℕ) (k : ℕ) → T (not (any p s)) → k < length s → T (not (p (get_or s k 0)))
unfolding any
none-at p [] k h l = absurd (omega arith)
none-at p (a ∷ s) zero h l = (neither (p a) (any p s) h).0
none-at p (a ∷ s) (suc k) h l = none-at p s k (neither (p a) (any p s) h).1 (omega arith)

pub without-place : (s : List ℕ) (k : ℕ) → AllDistinct s → k < length s → filter (other (get_or s k 0)) s ≡ take k s ++ drop (suc k) s
without-place [] k h l = absurd (omega arith)
without-place (a ∷ s) zero h l = filter-no (other a) a s (not-not (eqb a a) (eqb_refl a)) ∙ without-absent a s h.0
without-place (a ∷ s) (suc k) h l =
    filter-yes (other (get_or s k 0)) a s (none-at (eqb a) s k h.0 (omega arith))
    ∙ ap (λ (t : List ℕ). a ∷ t) (without-place s k h.1 (omega arith))

-- ---- ascending
abbrev pub Ascending : List ℕ → Type 0
Ascending [] = Unit {0}
Ascending (n ∷ s) = All (λ m. n < m) s × Ascending s

pub ascending-filter : (p : ℕ → Bool) (s : List ℕ) → Ascending s → Ascending (filter p s)
unfolding filter
ascending-filter p [] h = tt
ascending-filter p (a ∷ s) h = by (p a) (ascending-filter p s h.1)
  where
    by : (b : Bool) → Ascending (filter p s) → Ascending (elim b [ true ↦ a ∷ filter p s | false ↦ filter p s ])
    by true k = (filter-all (λ m. a < m) p s (all_map (λ m. a < m) (λ m. T (p m) → a < m) s (λ m z y. z) h.0), k)
    by false k = k

pub ascending-tabulate : (n : ℕ) (f : ℕ → ℕ) → ((i j : ℕ) → i < j → f i < f j) → Ascending (tabulate n f)
unfolding tabulate
ascending-tabulate zero f h = tt
ascending-tabulate (suc n) f h = (
  all-tabulate (λ m. f 0 < m) n (λ i. f (suc i)) (λ i k. h 0 (suc i) (omega arith)),
  ascending-tabulate n (λ i. f (suc i)) (λ i j k. h (suc i) (suc j) (omega arith)),
)

pub ascending-distinct : (s : List ℕ) → Ascending s → AllDistinct s
unfolding any
ascending-distinct [] h = tt
ascending-distinct (a ∷ s) h = (none s h.0, ascending-distinct s h.1)
  where
    none : (t : List ℕ) → All (λ m. a < m) t → T (not (any (eqb a) t))
    none [] f = tt
    none (m ∷ t) f = let k : a < m = f.0 in
        nor (eqb a m) (any (eqb a) t) (no_eqb {a = a} {b = m} (λ e. absurd (omega (arith, e)))) (none t f.1)
