-- The element at a place of a list.
use Rattle.std.specs.Prelude.{◌≡◌, refl, List, [], ◌∷◌, ◌++◌, ℕ, zero, suc, ◌-◌, ◌≤◌, ◌<◌, length}
use Rattle.std.proofs.Common.{sym, subst, inl, inr, arith}
use Rattle.std.proofs.Math.Option.{some}
use Rattle.std.proofs.Math.ListN.{get_elem?}
use Rattle.theory_lists.specs.All.{All, Any, all_any}

module _ {A : Type 0} where
  -- there is a place i, and what stands there is so
  abbrev pub AtPlace : (A → Type 0) → List A → ℕ → Type 0
  AtPlace P [] i = ⊥
  AtPlace P (x ∷ xs) zero = P x
  AtPlace P (x ∷ xs) (suc i) = AtPlace P xs i

  pub place-below : (P : A → Type 0) (s : List A) (i : ℕ) → AtPlace P s i → i < length s
  place-below P [] i h = absurd h
  place-below P (a ∷ s) zero h = omega arith
  place-below P (a ∷ s) (suc i) h = let r = place-below P s i h in omega arith

  pub place-append : (P : A → Type 0) (s t : List A) (i : ℕ) → AtPlace P s i → AtPlace P (s ++ t) i
  place-append P [] t i h = absurd h
  place-append P (a ∷ s) t zero h = h
  place-append P (a ∷ s) t (suc i) h = place-append P s t i h

  pub all-place : (P R : A → Type 0) {D : Type 0} (s : List A) (i : ℕ) → ((a : A) → P a → R a → D) → All P s → AtPlace R s i → D
  all-place P R [] i f h k = absurd k
  all-place P R (a ∷ s) zero f h k = f a h.0 k
  all-place P R (a ∷ s) (suc i) f h k = all-place P R s i f h.1 k

  pub place-both : (P R : A → Type 0) {D : Type 0} (s : List A) (i : ℕ) → ((a : A) → P a → R a → D) → AtPlace P s i → AtPlace R s i → D
  place-both P R [] i f h k = absurd h
  place-both P R (a ∷ s) zero f h k = f a h k
  place-both P R (a ∷ s) (suc i) f h k = place-both P R s i f h k

  -- ---- an element that a search by place gives
  pub element-any : (P : A → Type 0) (s : List A) (i : ℕ) (a : A) → get_elem? s i ≡ some a → P a → Any P s
  element-any P [] i a e h = absurd (let z : ◌≡◌ {A = ℕ} 0 1 = cc in omega arith)
  element-any P (x ∷ s) zero a e h = inl (let q : x ≡ a = cc in subst P (sym q) h)
  element-any P (x ∷ s) (suc i) a e h = inr (element-any P s i a e h)

  pub element-all : (P : A → Type 0) (s : List A) (i : ℕ) (a : A) → get_elem? s i ≡ some a → All P s → P a
  element-all P s i a e h = all_any P (λ x. x ≡ a) s (λ x k q. subst P q k) h (element-any (λ x. x ≡ a) s i a e refl)

  pub element-below : (s : List A) (i : ℕ) (a : A) → get_elem? s i ≡ some a → i < length s
  element-below [] i a e = absurd (let z : ◌≡◌ {A = ℕ} 0 1 = cc in omega arith)
  element-below (x ∷ s) zero a e = omega arith
  element-below (x ∷ s) (suc i) a e = let r = element-below s i a e in omega arith

  -- there is one at each place below the length
  pub element : (s : List A) (i : ℕ) → i < length s → (a : A) × (get_elem? s i ≡ some a)
  element [] i h = absurd (omega arith)
  element (a ∷ s) zero h = (a, refl)
  element (a ∷ s) (suc i) h = element s i (omega arith)

  pub element-last : (s : List A) (a : A) → get_elem? (s ++ (a ∷ [])) (length s) ≡ some a
  element-last [] a = refl
  element-last (x ∷ s) a = element-last s a

-- ---- in joined lists
module _ {A : Type 0} where
  pub element-left : (s t : List A) (j : ℕ) → j < length s → get_elem? s j ≡ get_elem? (s ++ t) j
  element-left [] t j h = absurd (omega arith)
  element-left (a ∷ s) t zero h = refl
  element-left (a ∷ s) t (suc j) h = element-left s t j (omega arith)

  pub element-right : (s t : List A) (j : ℕ) → length s ≤ j → get_elem? t (j - length s) ≡ get_elem? (s ++ t) j
  element-right [] t j h = let e : j - 0 ≡ j = omega arith in rw e
  element-right (a ∷ s) t zero h = absurd (omega arith)
  element-right (a ∷ s) t (suc j) h = let e : suc j - suc (length s) ≡ j - length s = omega arith in
      rw e (element-right s t j (omega arith))
