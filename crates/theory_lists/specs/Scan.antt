-- Tests of lists, element by element: what a place decides, what is left from a place on, and lists joined.
use Rattle.std.specs.Prelude.{◌≡◌, Bool, true, false, ◌&&◌, ◌||◌, length, get_or, drop}
use Rattle.std.proofs.Math.Path.{refl, ap}
use Rattle.std.proofs.Common.{sym, ◌∙◌, add-one, arith}
use Rattle.std.proofs.Math.Bool.{or-true, or-false, or_assoc}
use mathlib.Core.List.{List, [], ◌∷◌, ◌++◌}
use Prim.Native.Nat.{ℕ, zero, suc, ◌+◌, ◌<◌}
use Rattle.std.proofs.Math.Seq.{drop-cons, drop-length}
use Rattle.rules.specs.Lists.{any, same}

module _ {A : Type 0} where
  drop-end : (s : List A) (i : ℕ) → length s ≡ i → drop i s ≡ []
  drop-end s i h = rw (← h) (drop-length s)

  -- ---- some element passes a test
  pub any_append : (t : A → Bool) (s u : List A) → any t (s ++ u) ≡ any t s || any t u
  unfolding any
  any_append t [] u = refl
  any_append t (a ∷ s) u = rw (any_append t s u) (sym (or_assoc (t a) (any t s) (any t u)))

  pub any_snoc : (t : A → Bool) (s : List A) (a : A) → any t (s ++ (a ∷ [])) ≡ any t s || t a
  unfolding any
  any_snoc t s a = any_append t s (a ∷ []) ∙ ap (λ (b : Bool). any t s || b) (or-false (t a))

  module _ (d : A) (t : A → Bool) where
    pub any_at : (s : List A) (i : ℕ) → i < length s → t (get_or s i d) ≡ true → any t s ≡ true
    unfolding any
    any_at [] i h e = absurd (omega arith)
    any_at (a ∷ s) zero h e = rw e
    any_at (a ∷ s) (suc i) h e = rw (any_at s i (omega arith) e) (or-true (t a))

    pub any_none : (s : List A) → ((k : ℕ) → k < length s → t (get_or s k d) ≡ false) → any t s ≡ false
    unfolding any
    any_none [] e = refl
    any_none (a ∷ s) e = rw (e 0 (omega arith)) (any_none s (λ k h. e (suc k) (omega arith)))

  -- ---- two lists have equal elements
  pub same_next : (d : A) (equals : A → A → Bool) (s u : List A) (i : ℕ) → i < length s → i < length u
      → same equals (drop i s) (drop i u) ≡ equals (get_or s i d) (get_or u i d) && same equals (drop (i + 1) s) (drop (i + 1) u)
  unfolding same
  same_next d equals s u i h k = rw (add-one i, drop-cons s i d h, drop-cons u i d k)

  pub same_end : (equals : A → A → Bool) (s u : List A) (i : ℕ) → length s ≡ i → length u ≡ i → same equals (drop i s) (drop i u) ≡ true
  unfolding same
  same_end equals s u i h k = rw (drop-end s i h, drop-end u i k)
