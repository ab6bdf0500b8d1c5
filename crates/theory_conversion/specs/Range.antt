-- A difference of two numbers from 0 to 10^9 is in the amounts' range: so a numerator carried back is, where no half is below 0.
use Rattle.std.specs.Prelude.{◌≡◌, Bool, ℕ, suc, ◌<◌, ℤ, pos, negsuc, ◌-ℤ◌, T}
use Rattle.std.proofs.Math.Path.{refl}
use Rattle.std.proofs.Math.Bool.{true, false}
use Rattle.std.proofs.Common.{arith}
use Rattle.std.specs.Int.Signed.{le_z}
use Rattle.rules_types.specs.Limits as limit
use Rattle.rules.specs.Convert.{place_of, carried_numerator}
use Rattle.theory_integers.specs.Difference.{#, ⊝, ◌⊖◌, ≤-by}
use Rattle.theory_integers.specs.Size.{abs-≤}
use Rattle.theory_vectors.specs.Amounts.{Small}
use Rattle.theory_conversion.specs.Solutions.{carried-kept, carried-split}
use Rattle.theory_conversion.specs.Halves.{place_mono}

difference-small : (a b : ℤ) → T (le_z (pos 0) a) → T (le_z (pos 0) b) → Small a → Small b → Small (a -ℤ b)
difference-small (negsuc m) b p q h k = absurd p
difference-small (pos m) (negsuc n) p q h k = absurd q
difference-small (pos m) (pos n) p q h k =
    let most = # limit.amount in
    abs-≤ (pos m -ℤ pos n) limit.amount (≤-by (⊝ most) (# m ⊖ # n) (omega arith)) (≤-by (# m ⊖ # n) most (omega arith))

module _ (keeps : ℕ → Bool) (r : ℕ) where
  -- where the halves of variable f < r stand
  pub kept-below : (f : ℕ) → f < r → place_of keeps f < place_of keeps r
  unfolding place_of
  kept-below f h = by (keeps f) refl
    where
      by : (t : Bool) → keeps f ≡ t → place_of keeps f < place_of keeps r
      by true e = omega (arith, rw (e, place_of) at (place_mono keeps (suc f) r h))
      by false e = omega (arith, rw (e, place_of) at (place_mono keeps (suc f) r h))

  pub split_below : (f : ℕ) → f < r → keeps f ≡ false → suc (place_of keeps f) < place_of keeps r
  unfolding place_of
  split_below f h e = omega (arith, rw (e, place_of) at (place_mono keeps (suc f) r h))

  pub carried-small : (x : ℕ → ℤ) → ((i : ℕ) → i < place_of keeps r → Small (x i))
      → ((i : ℕ) → i < place_of keeps r → T (le_z (pos 0) (x i)))
      → (f : ℕ) → f < r → Small (carried_numerator keeps x f)
  carried-small x s n f h = by (keeps f) refl
    where
      i : ℕ
      i = place_of keeps f

      by : (t : Bool) → keeps f ≡ t → Small (carried_numerator keeps x f)
      by true e = rw (carried-kept keeps x f e) (s i (kept-below f h))
      by false e = rw (carried-split keeps x f e) (difference-small (x i) (x (suc i)) (n i (kept-below f h)) (n (suc i) (split_below f h e))
          (s i (kept-below f h)) (s (suc i) (split_below f h e)))
