-- The element at a place of a list, and the list's front up to there.
use Rattle.std.specs.Prelude.{◌≡◌, refl, List, [], ◌∷◌, ◌++◌, ℕ, zero, suc, ◌<◌, get_or, take, drop}
use Rattle.std.proofs.Common.{ap, arith, take-append-drop}
use Rattle.std.proofs.Math.Option.{some}
use Rattle.std.proofs.Math.ListN.{get_elem?}
use Rattle.theory_lists.specs.All.{All, append-all}

module _ {A : Type 0} where
  pub element-take : (n : ℕ) (s : List A) (i : ℕ) → i < n → get_elem? (take n s) i ≡ get_elem? s i
  element-take zero s i h = absurd (omega arith)
  element-take (suc n) [] i h = refl
  element-take (suc n) (a ∷ s) zero h = refl
  element-take (suc n) (a ∷ s) (suc i) h = element-take n s i (omega arith)

  pub take-element : (s : List A) (i : ℕ) (a : A) → get_elem? s i ≡ some a → take (suc i) s ≡ take i s ++ (a ∷ [])
  take-element [] i a e = absurd (let z : ◌≡◌ {A = ℕ} 0 1 = cc in omega arith)
  take-element (x ∷ s) zero a e = let q : x ≡ a = cc in ap (λ (y : A). y ∷ []) q
  take-element (x ∷ s) (suc i) a e = ap (λ (t : List A). x ∷ t) (take-element s i a e)

  pub element-get_or : (s : List A) (i : ℕ) (a d : A) → get_elem? s i ≡ some a → get_or s i d ≡ a
  element-get_or [] i a d e = absurd (let z : ◌≡◌ {A = ℕ} 0 1 = cc in omega arith)
  element-get_or (x ∷ s) zero a d e = cc
  element-get_or (x ∷ s) (suc i) a d e = element-get_or s i a d e

  pub front-all : (P : A → Type 0) (n : ℕ) (s : List A) → All P s → All P (take n s)
  front-all P n s h = (append-all P (take n s) (drop n s) (rw (take-append-drop n s) h)).0
