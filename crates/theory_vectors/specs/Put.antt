-- A function with one value put in: there it has that value, and elsewhere its own.
use Rattle.std.specs.Prelude.{◌≡◌}
use Rattle.std.proofs.Math.Path.{refl}
use Rattle.std.proofs.Common.{ap}
use Prim.Native.Nat.{ℕ, zero, suc}
use Rattle.rules.specs.Lists.{put}

module _ {A : Type 0} where
  pub put_same : (i : ℕ) (a : A) (f : ℕ → A) → put i a f i ≡ a
  unfolding put
  put_same zero a f = refl
  put_same (suc i) a f = put_same i a (λ k. f (suc k))

  pub put_other : (i : ℕ) (a : A) (f : ℕ → A) (j : ℕ) → (j ≡ i → ⊥) → put i a f j ≡ f j
  unfolding put
  put_other zero a f zero n = absurd (n refl)
  put_other zero a f (suc j) n = refl
  put_other (suc i) a f zero n = refl
  put_other (suc i) a f (suc j) n = put_other i a (λ k. f (suc k)) j (λ e. n (ap suc e))
