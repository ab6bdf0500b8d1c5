-- Facts of every element, or of some, along a list; no membership proofs.
use Rattle.std.specs.Prelude.{◌≡◌, Bool, not, ◌⊎◌, ℕ, zero, suc, T, get_or, replicate}
use Rattle.std.proofs.Math.Path.{refl, ap}
use Rattle.std.proofs.Math.Bool.{true, false}
use Rattle.std.proofs.Math.Logic.{inl, inr, ⊎_elim}
use mathlib.Core.List.{List, [], ◌∷◌, ◌++◌, map}
use Rattle.std.proofs.Math.Facts.{or_yes, or_no, and_yes, yes_and}
use Rattle.rules.specs.Lists.{any, all, filter}
use Rattle.theory_lists.specs.Tests.{or_l, or_r}

module _ {A : Type 0} where
  abbrev pub All : (A → Type 0) → List A → Type 0
  All P [] = Unit {0}
  All P (x ∷ xs) = P x × All P xs

  abbrev pub Any : (A → Type 0) → List A → Type 0
  Any P [] = ⊥
  Any P (x ∷ xs) = P x ⊎ Any P xs

  pub all_any : (P R : A → Type 0) {D : Type 0} (s : List A) → ((a : A) → P a → R a → D) → All P s → Any R s → D
  all_any P R [] f h k = absurd k
  all_any P R (a ∷ s) f h (inl k) = f a h.0 k
  all_any P R (a ∷ s) f h (inr k) = all_any P R s f h.1 k

  pub all_map : (P R : A → Type 0) (s : List A) → ((a : A) → P a → R a) → All P s → All R s
  all_map P R [] f h = tt
  all_map P R (a ∷ s) f h = (f a h.0, all_map P R s f h.1)

  pub any-map : (P R : A → Type 0) (s : List A) → ((a : A) → P a → R a) → Any P s → Any R s
  any-map P R [] f h = absurd h
  any-map P R (a ∷ s) f (inl h) = inl (f a h)
  any-map P R (a ∷ s) f (inr h) = inr (any-map P R s f h)

  pub all_both : (P R : A → Type 0) (s : List A) → All P s → All R s → All (λ a. P a × R a) s
  all_both P R [] h k = tt
  all_both P R (a ∷ s) h k = ((h.0, k.0), all_both P R s h.1 k.1)

  pub all_append : (P : A → Type 0) (s t : List A) → All P s → All P t → All P (s ++ t)
  all_append P [] t h k = k
  all_append P (a ∷ s) t h k = (h.0, all_append P s t h.1 k)

  pub append-all : (P : A → Type 0) (s t : List A) → All P (s ++ t) → All P s × All P t
  append-all P [] t h = (tt, h)
  append-all P (a ∷ s) t h = let r = append-all P s t h.1 in ((h.0, r.0), r.1)

  pub any_left : (P : A → Type 0) (s t : List A) → Any P s → Any P (s ++ t)
  any_left P [] t h = absurd h
  any_left P (a ∷ s) t (inl h) = inl h
  any_left P (a ∷ s) t (inr h) = inr (any_left P s t h)

  pub any-right : (P : A → Type 0) (s t : List A) → Any P t → Any P (s ++ t)
  any-right P [] t h = h
  any-right P (a ∷ s) t h = inr (any-right P s t h)

  -- ---- the tests of rules/Lists
  pub any-yes : (p : A → Bool) (s : List A) → T (any p s) → Any (λ a. T (p a)) s
  unfolding any
  any-yes p [] h = absurd h
  any-yes p (a ∷ s) h = ⊎_elim (λ k. inl k) (λ k. inr (any-yes p s k)) (or_yes (p a) (any p s) h)

  pub yes-any : (p : A → Bool) (s : List A) → Any (λ a. T (p a)) s → T (any p s)
  unfolding any
  yes-any p [] h = absurd h
  yes-any p (a ∷ s) (inl h) = or_l (p a) (any p s) h
  yes-any p (a ∷ s) (inr h) = or_r (p a) (any p s) (yes-any p s h)

  pub any-no : (p : A → Bool) (s : List A) → T (not (any p s)) → All (λ a. T (not (p a))) s
  unfolding any
  any-no p [] h = tt
  any-no p (a ∷ s) h = let r = or_no (p a) (any p s) h in (r.0, any-no p s r.1)

  pub all_yes : (p : A → Bool) (s : List A) → T (all p s) → All (λ a. T (p a)) s
  unfolding all
  all_yes p [] h = tt
  all_yes p (a ∷ s) h = let r = and_yes (p a) (all p s) h in (r.0, all_yes p s r.1)

  pub yes-all : (p : A → Bool) (s : List A) → All (λ a. T (p a)) s → T (all p s)
  unfolding all
  yes-all p [] h = tt
  yes-all p (a ∷ s) h = yes_and (p a) (all p s) h.0 (yes-all p s h.1)

  -- tests that agree on every element
  pub any-agree : (p q : A → Bool) (s : List A) → All (λ a. p a ≡ q a) s → any p s ≡ any q s
  unfolding any
  any-agree p q [] h = refl
  any-agree p q (a ∷ s) h = rw (h.0, any-agree p q s h.1)

  -- one element, kept where a test says so
  pub kept-one : (P : A → Type 0) (a : A) (r : List A) (t : Bool) → (T t → P a) → All P r → All P (elim t [ true ↦ a ∷ r | false ↦ r ])
  kept-one P a r true f h = (f tt, h)
  kept-one P a r false f h = h

  pub filter-all : (P : A → Type 0) (p : A → Bool) (s : List A) → All (λ a. T (p a) → P a) s → All P (filter p s)
  unfolding filter
  filter-all P p [] h = tt
  filter-all P p (a ∷ s) h = kept-one P a (filter p s) (p a) h.0 (filter-all P p s h.1)

  pub one_kept : (P : A → Type 0) (a : A) (r : List A) (t : Bool) → All P (elim t [ true ↦ a ∷ r | false ↦ r ]) → (T t → P a) × All P r
  one_kept P a r true h = (λ z. h.0, h.1)
  one_kept P a r false h = (λ z. absurd z, h)

  pub all_filter : (P : A → Type 0) (p : A → Bool) (s : List A) → All P (filter p s) → All (λ a. T (p a) → P a) s
  unfolding filter
  all_filter P p [] h = tt
  all_filter P p (a ∷ s) h = let r = one_kept P a (filter p s) (p a) h in (r.0, all_filter P p s r.1)

  pub filter-append : (p : A → Bool) (s t : List A) → filter p (s ++ t) ≡ filter p s ++ filter p t
  unfolding filter
  filter-append p [] t = refl
  filter-append p (a ∷ s) t = by (p a) (filter-append p s t)
    where
      by : (b : Bool) → filter p (s ++ t) ≡ filter p s ++ filter p t → elim b [ true ↦ a ∷ filter p (s ++ t) | false ↦ filter p (s ++ t) ]
          ≡ elim b [ true ↦ a ∷ filter p s | false ↦ filter p s ] ++ filter p t
      by true e = ap (λ (l : List A). a ∷ l) e
      by false e = e

-- ---- made lists
-- what holds of everything
pub every : {A : Type 0} (P : A → Type 0) (s : List A) → ((a : A) → P a) → All P s
every P [] h = tt
every P (a ∷ s) h = (h a, every P s h)

module _ {A B : Type 0} (P : B → Type 0) (f : A → B) where
  pub any-mapped : (s : List A) → Any (λ a. P (f a)) s → Any P (map f s)
  any-mapped [] h = absurd h
  any-mapped (a ∷ s) (inl h) = inl h
  any-mapped (a ∷ s) (inr h) = inr (any-mapped s h)

  pub mapped-all : (s : List A) → All P (map f s) → All (λ a. P (f a)) s
  mapped-all [] h = tt
  mapped-all (a ∷ s) h = (h.0, mapped-all s h.1)

  pub all-mapped : (s : List A) → All (λ a. P (f a)) s → All P (map f s)
  all-mapped [] h = tt
  all-mapped (a ∷ s) h = (h.0, all-mapped s h.1)

pub get_or-replicate-same : {A : Type 0} (n i : ℕ) (a : A) → get_or (replicate n a) i a ≡ a
get_or-replicate-same zero i a = refl
get_or-replicate-same (suc n) zero a = refl
get_or-replicate-same (suc n) (suc i) a = get_or-replicate-same n i a

module _ {A B : Type 0} (f : A → B) where
  pub map-append : (s t : List A) → map f (s ++ t) ≡ map f s ++ map f t
  map-append [] t = refl
  map-append (a ∷ s) t = ap (λ (l : List B). f a ∷ l) (map-append s t)
