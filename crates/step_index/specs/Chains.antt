-- Steps by key, in chains. `key i` is step i's; a link is a step's number and 1, and 0 is none.
use Rattle.std.specs.Prelude.{◌≡◌, Bool, ◌&&◌, ◌||◌, ◌⊎◌, T}
use Rattle.std.proofs.Math.Path.{refl}
use Rattle.std.proofs.Common.{ap, subst, inl, inr, ⊎_elim, eq-zero-or-pos, eq-eqb, eqb-true}
use Rattle.std.proofs.Math.Bool.{true, false, cond}
use Prim.Native.Nat.{ℕ, zero, suc, ◌-◌, ◌≤◌, ◌<◌}
use native.Mathlib.Omega.{arith}
use Rattle.std.proofs.Math.Facts.{and_yes, or_yes}
use Rattle.std.proofs.Math.Dec.{eqb}
use Rattle.theory_lists.specs.Tests.{of-true, of-false, clash, or_l, or_r}

-- ---- the steps below n
-- one of them passes the test, the newest looked at first
unfoldable pub any_below : (ℕ → Bool) → ℕ → Bool
any_below test zero = false
any_below test (suc n) = test n || any_below test n

pub any_below-none : (t : ℕ → Bool) → any_below t 0 ≡ false
unfolding any_below
any_below-none t = refl

-- a step that passes, by its number
pub record Some (test : ℕ → Bool) (n : ℕ) : Type 0 where
  pub at : ℕ
  pub below : at < n
  pub passes : T (test at)

pub any_some : (t : ℕ → Bool) (n : ℕ) → T (any_below t n) → Some t n
unfolding any_below
any_some t zero h = absurd h
any_some t (suc n) h = ⊎_elim (λ x. record { at = n; below = omega arith; passes = x })
    (λ x. let s = any_some t n x in record { at = s.at; below = omega (arith, s.below); passes = s.passes })
    (or_yes (t n) (any_below t n) h)

pub some-any : (t : ℕ → Bool) (n i : ℕ) → i < n → T (t i) → T (any_below t n)
unfolding any_below
some-any t zero i h p = absurd (omega arith)
some-any t (suc n) i h p = ⊎_elim (λ e. or_l (t n) (any_below t n) (subst (λ (k : ℕ). T (t k)) e p))
    (λ l. or_r (t n) (any_below t n) (some-any t n i l p)) (last-or-below i n (omega arith))
  where
    last-or-below : (i n : ℕ) → i ≤ n → (i ≡ n) ⊎ (i < n)
    last-or-below i n h = ⊎_elim (λ z. inl (omega arith)) (λ z. inr (omega arith)) (eq-zero-or-pos (n - i))

-- ---- the newest with key k
unfoldable pub newest : (ℕ → ℕ) → ℕ → ℕ → ℕ
newest key zero k = 0
newest key (suc n) k = cond (eqb (key n) k) (suc n) (newest key n k)

pub newest-same : (key key' : ℕ → ℕ) (k n : ℕ) → ((i : ℕ) → i < n → key i ≡ key' i) → newest key n k ≡ newest key' n k
unfolding newest
newest-same key key' k zero e = refl
newest-same key key' k (suc n) e = λ j. cond (eqb (e n (omega arith) j) k) (suc n) (newest-same key key' k n (λ i h. e i (omega arith)) j)

module _ (key : ℕ → ℕ) (k : ℕ) where
  pub newest-own : (n : ℕ) → eqb (key n) k ≡ true → newest key (suc n) k ≡ suc n
  unfolding newest
  newest-own n e = rw e

  pub newest-other : (n : ℕ) → eqb (key n) k ≡ false → newest key (suc n) k ≡ newest key n k
  unfolding newest
  newest-other n e = rw e

  pub newest-within : (n : ℕ) → newest key n k ≤ n
  unfolding newest
  newest-within zero = omega arith
  newest-within (suc n) = by (eqb (key n) k) (newest-within n)
    where
      by : (b : Bool) → newest key n k ≤ n → cond b (suc n) (newest key n k) ≤ suc n
      by true h = omega arith
      by false h = omega arith

  -- a place on the chain: its end, or behind a step with the key
  abbrev pub OnChain : ℕ → Type 0
  OnChain at = (i : ℕ) → at ≡ suc i → key i ≡ k

  pub on_chain : (n : ℕ) → OnChain (newest key n k)
  unfolding newest
  on_chain zero = λ i e. absurd (omega arith)
  on_chain (suc n) = by (eqb (key n) k) refl (on_chain n)
    where
      by : (b : Bool) → eqb (key n) k ≡ b → OnChain (newest key n k) → OnChain (cond b (suc n) (newest key n k))
      by true e h = λ i j. let same : i ≡ n = omega arith in rw same (eqb-true (key n) k e)
      by false e h = h

  -- ---- a search along the chain
  module _ (test : ℕ → Bool) where
    -- one with the key passes
    abbrev pub found : ℕ → Bool
    found n = any_below (λ i. eqb (key i) k && test i) n

    pub found-newest : (n : ℕ) → found n ≡ found (newest key n k)
    unfolding newest any_below
    found-newest zero = refl
    found-newest (suc n) = by (eqb (key n) k) refl (found-newest n)
      where
        by : (b : Bool) → eqb (key n) k ≡ b → found n ≡ found (newest key n k) → found (suc n) ≡ found (cond b (suc n) (newest key n k))
        by true e h = refl
        by false e h = rw e h

    pub found-next : (i : ℕ) → key i ≡ k → found (suc i) ≡ test i || found (newest key i k)
    unfolding any_below
    found-next i e = rw (eq-eqb (key i) k e) (ap (λ (b : Bool). test i || b) (found-newest i))

  module _ (test : ℕ → Bool) (n : ℕ) where
    -- what is found passes, and a step with the key that passes is found
    pub found_some : found test n ≡ true → Some test n
    found_some e =
        let s = any_some (λ i. eqb (key i) k && test i) n (of-true (found test n) e) in
        record { at = s.at; below = s.below; passes = (and_yes (eqb (key s.at) k) (test s.at) s.passes).1 }

    pub found_none : found test n ≡ false → (i : ℕ) → i < n → key i ≡ k → T (test i) → ⊥
    found_none e i h own p =
        clash (found test n) (some-any (λ i. eqb (key i) k && test i) n i h (rw (eq-eqb (key i) k own) p)) (of-false (found test n) e)
