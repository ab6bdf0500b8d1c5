-- A relation byte and the relation that it says.
use Rattle.std.specs.Prelude.{◌≡◌, Bool, false, ℕ}
use Rattle.std.proofs.Math.Path.{refl, subst}
use Rattle.std.proofs.Common.{sym, eqb-true}
use Rattle.std.proofs.Math.Bool.{true}
use Rattle.std.proofs.Math.Dec.{eqb}
use Rattle.rules.specs.Problem.{Relation, le, lt, eq, ge, relation_of, is_equality}

-- what holds of 2, 3 and 4 with <, = and ≥, and of the others with ≤, holds of every byte with its relation
module _ (P : ℕ → Relation → Type 0) (two : P 2 lt) (three : P 3 eq) (four : P 4 ge)
    (others : (n : ℕ) → eqb n 2 ≡ false → eqb n 3 ≡ false → eqb n 4 ≡ false → P n le) where
  pub by_code : (n : ℕ) → P n (relation_of n)
  unfolding relation_of
  by_code n = by (eqb n 2) refl (eqb n 3) refl (eqb n 4) refl
    where
      one : (k : ℕ) → P k (relation_of k) → eqb n k ≡ true → P n (relation_of n)
      one k h e = subst (λ (i : ℕ). P i (relation_of i)) (sym (eqb-true n k e)) h

      by : (s : Bool) → eqb n 2 ≡ s → (t : Bool) → eqb n 3 ≡ t → (u : Bool) → eqb n 4 ≡ u → P n (relation_of n)
      by true e t f u g = one 2 two e
      by false e true f u g = one 3 three f
      by false e false f true g = one 4 four g
      by false e false f false g = rw (e, f, g) (others n e f g)

pub relation-bytes : (relation_of 1 ≡ le) × (relation_of 2 ≡ lt) × (relation_of 3 ≡ eq) × (relation_of 4 ≡ ge)
unfolding relation_of
relation-bytes = (refl, refl, refl, refl)

pub equality-code : (n : ℕ) → is_equality (relation_of n) ≡ eqb n 3
unfolding is_equality
equality-code n = by_code (λ n r. is_equality r ≡ eqb n 3) refl refl refl (λ n s t u. sym t) n
