-- Every value has its halves, none below 0, whose difference it is: carried back, they are the old values again.
use Rattle.std.specs.Prelude.{◌≡◌, Bool, cond, List, [], ◌∷◌, ◌++◌, ℤ, pos, negsuc, ◌-ℤ◌, T, ltb, length}
use Rattle.std.proofs.Math.Path.{refl}
use Rattle.std.proofs.Common.{◌∙◌, le→leb, ltb→lt, get_or-append-add}
use Rattle.std.proofs.Math.Logic.{⊎_elim}
use Rattle.std.proofs.Math.Bool.{true, false}
use Prim.Native.Nat.{ℕ, zero, suc, ◌+◌, ◌≤◌, ◌<◌}
use native.Mathlib.Omega.{arith}
use Rattle.std.specs.Int.Signed.{le_z}
use Rattle.std.proofs.Math.Dec.{nltb→le}
use Rattle.std.proofs.Math.ListN.{get_or, length-append, get_or-append}
use Rattle.rules.specs.Convert.{place_of, carried_numerator}
use Rattle.theory_lists.specs.Tests.{split}
use Rattle.theory_lists.specs.All.{All, all_append}
use Rattle.theory_integers.specs.Ring.{minus-zero, zero_minus}
use Rattle.theory_conversion.specs.Solutions.{carried-kept, carried-split}

-- ---- places rise with the variables
pub place_mono : (keeps : ℕ → Bool) (f r : ℕ) → f ≤ r → place_of keeps f ≤ place_of keeps r
unfolding place_of
place_mono keeps f zero h = let e : f ≡ 0 = omega arith in rw e (omega arith)
place_mono keeps f (suc r) h = ⊎_elim (λ t. let l = ltb→lt f (suc r) t in omega (arith, place_mono keeps f r (omega arith)))
    (λ t. let l = nltb→le f (suc r) t in let e : f ≡ suc r = omega arith in rw e (omega arith)) (split (ltb f (suc r)))

-- ---- the halves of one value: it and 0, or 0 and its negative
abbrev pair_of : ℤ → List ℤ
pair_of (pos n) = pos n ∷ pos 0 ∷ []
pair_of (negsuc n) = pos 0 ∷ pos (suc n) ∷ []

length-pair : (z : ℤ) → length (pair_of z) ≡ 2
length-pair (pos n) = refl
length-pair (negsuc n) = refl

length-here : (t : Bool) (z : ℤ) → length (cond t (z ∷ []) (pair_of z)) ≡ cond t 1 2
length-here true z = refl
length-here false z = length-pair z

abbrev NotBelow : ℤ → Type 0
NotBelow z = T (le_z (pos 0) z)

at_least : (n : ℕ) → NotBelow (pos n)
at_least n = le→leb 0 n (omega arith)

pair-not-below : (z : ℤ) → All NotBelow (pair_of z)
pair-not-below (pos n) = (at_least n, (tt, tt))
pair-not-below (negsuc n) = (tt, (at_least (suc n), tt))

-- ---- those of the first r values
unfoldable pub halves_of : (ℕ → Bool) → (ℕ → ℤ) → ℕ → List ℤ
halves_of keeps x zero = []
halves_of keeps x (suc f) = halves_of keeps x f ++ cond (keeps f) (x f ∷ []) (pair_of (x f))

module _ (keeps : ℕ → Bool) (x : ℕ → ℤ) where
  abbrev here : ℕ → List ℤ
  here f = cond (keeps f) (x f ∷ []) (pair_of (x f))

  length-halves : (r : ℕ) → length (halves_of keeps x r) ≡ place_of keeps r
  unfolding halves_of place_of
  length-halves zero = refl
  length-halves (suc r) =
      omega (arith, length-append (halves_of keeps x r) (here r), length-halves r, length-here (keeps r) (x r))

  -- half j of value f
  halves-at : (r f j : ℕ) → f < r → j < cond (keeps f) 1 2
      → get_or (halves_of keeps x r) (place_of keeps f + j) (pos 0) ≡ get_or (here f) j (pos 0)
  unfolding halves_of place_of
  halves-at zero f j h k = absurd (omega arith)
  halves-at (suc r) f j h k = ⊎_elim (λ t. before (ltb→lt f r t) (halves-at r f j (ltb→lt f r t) k))
      (λ t. let l = nltb→le f r t in let e : r ≡ f = omega arith in last e) (split (ltb f r))
    where
      before : f < r → get_or (halves_of keeps x r) (place_of keeps f + j) (pos 0) ≡ get_or (here f) j (pos 0)
          → get_or (halves_of keeps x r ++ here r) (place_of keeps f + j) (pos 0) ≡ get_or (here f) j (pos 0)
      before l e =
          get_or-append (halves_of keeps x r) (here r) (pos 0) (place_of keeps f + j)
          (omega (arith, length-halves r, place_mono keeps (suc f) r l)) ∙ e

      last : r ≡ f → get_or (halves_of keeps x r ++ here r) (place_of keeps f + j) (pos 0) ≡ get_or (here f) j (pos 0)
      last e =
          rw (← e, ← length-halves r) (get_or-append-add (halves_of keeps x r) (here r) j (pos 0))

  -- ---- their difference
  pub carried-halves : (r f : ℕ) → f < r → carried_numerator keeps (λ i. get_or (halves_of keeps x r) i (pos 0)) f ≡ x f
  carried-halves r f h = by (keeps f) refl
    where
      halves : ℕ → ℤ
      halves i = get_or (halves_of keeps x r) i (pos 0)

      half : (j i : ℕ) → place_of keeps f + j ≡ i → j < cond (keeps f) 1 2 → halves i ≡ get_or (here f) j (pos 0)
      half j i e k = rw (← e) (halves-at r f j h k)

      difference : (z : ℤ) → get_or (pair_of z) 0 (pos 0) -ℤ get_or (pair_of z) 1 (pos 0) ≡ z
      difference (pos n) = minus-zero (pos n)
      difference (negsuc n) = zero_minus (pos (suc n))

      by : (t : Bool) → keeps f ≡ t → carried_numerator keeps halves f ≡ x f
      by true e = carried-kept keeps halves f e ∙ half 0 (place_of keeps f) (omega arith) (rw e (omega arith)) ∙ rw e
      by false e =
          carried-split keeps halves f e
          ∙ (λ i. half 0 (place_of keeps f) (omega arith) (rw e (omega arith)) i
          -ℤ half 1 (suc (place_of keeps f)) (omega arith) (rw e (omega arith)) i)
          ∙ rw e (difference (x f))

  -- ---- none is below 0, where no kept value is
  halves-not-below : (r : ℕ) → ((f : ℕ) → f < r → keeps f ≡ true → NotBelow (x f)) → All NotBelow (halves_of keeps x r)
  unfolding halves_of
  halves-not-below zero h = tt
  halves-not-below (suc r) h = all_append NotBelow (halves_of keeps x r) (here r) (halves-not-below r (λ f l. h f (omega arith)))
      (by (keeps r) (h r (omega arith)))
    where
      by : (t : Bool) → (t ≡ true → NotBelow (x r)) → All NotBelow (cond t (x r ∷ []) (pair_of (x r)))
      by true k = (k refl, tt)
      by false k = pair-not-below (x r)

  pub half-not-below : (r : ℕ) → ((f : ℕ) → f < r → keeps f ≡ true → NotBelow (x f)) → (i : ℕ)
      → T (le_z (pos 0) (get_or (halves_of keeps x r) i (pos 0)))
  half-not-below r h i = at (halves_of keeps x r) i (halves-not-below r h)
    where
      at : (zs : List ℤ) (i : ℕ) → All NotBelow zs → NotBelow (get_or zs i (pos 0))
      at [] i k = tt
      at (z ∷ zs) zero k = k.0
      at (z ∷ zs) (suc i) k = at zs i k.1
