-- Reading said by offset: a field, and several of one kind, where there are bytes enough; and what a reading ends with.
use Rattle.std.specs.Prelude.{◌≡◌, Bool, not, List, [], ◌∷◌, ltb, length, get_or, take}
use Rattle.std.proofs.Math.Path.{ap, subst}
use Rattle.std.proofs.Common.{◌∙◌, ltb→lt, drop-drop}
use Rattle.std.proofs.Math.Logic.{⊎_elim}
use Prim.Native.Nat.{ℕ, zero, suc, ◌+◌, ◌≤◌, ◌<◌}
use native.Mathlib.Omega.{arith}
use Rattle.std.proofs.Math.Dec.{T, nltb→le}
use Rattle.std.proofs.Math.ListN.{drop, length-drop}
use Rattle.rules_types.specs.declared.answers.Refusal.{Refusal}
use Rattle.rules.specs.Bytes.{from_bytes, field_at}
use Rattle.rules.specs.Problem.{Read, fault, got, Reader, after, each, byte, number, tested, field}
use Rattle.theory_lists.specs.Tests.{split, is_true, is_false}

-- ---- a field, where there are bytes enough
number-reads : (k : ℕ) (bytes : List ℕ) (place : ℕ) → k ≤ length bytes
    → number k bytes place ≡ got (from_bytes (take k bytes)) (drop k bytes) (place + k)
unfolding number after byte from_bytes
number-reads zero bytes place h = ap (got 0 bytes) (let e : place ≡ place + 0 = omega arith in e)
number-reads (suc k) [] place h = absurd (omega arith)
number-reads (suc k) (x ∷ bytes) place h =
    let e : suc place + k ≡ place + suc k = omega arith in rw (number-reads k bytes (suc place) (omega arith), e)

module _ (bytes : List ℕ) (at size to : ℕ) (next : at + size ≡ to) (enough : to ≤ length bytes) (good : ℕ → Bool) (f : Refusal) where
  number_at : number size (drop at bytes) at ≡ got (field_at at size bytes) (drop to bytes) to
  unfolding field_at
  number_at = number-reads size (drop at bytes) at (omega (arith, length-drop at bytes))
      ∙ (λ i. got (field_at at size bytes) ((drop-drop size at bytes ∙ ap (λ (n : ℕ). drop n bytes) next) i) (next i))

  pub field-good : T (good (field_at at size bytes)) → field size good f (drop at bytes) at ≡ got (field_at at size bytes)
      (drop to bytes) to
  unfolding field after tested
  field-good t = rw (number_at, is_true (good (field_at at size bytes)) t)

  pub field-bad : T (not (good (field_at at size bytes))) → field size good f (drop at bytes) at ≡ fault f at
  unfolding field after tested
  field-bad t = rw (number_at, is_false (good (field_at at size bytes)) t)

-- ---- what a reading ends with
module _ {A : Type 0} where
  abbrev pub Ends : (A → List ℕ → ℕ → Type 0) → (Refusal → ℕ → Type 0) → Read A → Type 0
  Ends P Q (fault f place) = Q f place
  Ends P Q (got a bytes place) = P a bytes place

module _ {A B : Type 0} (P : A → List ℕ → ℕ → Type 0) (R : B → List ℕ → ℕ → Type 0) (Q : Refusal → ℕ → Type 0) where
  pub after-ends : (r : Read A) (next : A → Reader B) → Ends P Q r
      → ((a : A) (bytes : List ℕ) (place : ℕ) → P a bytes place → Ends R Q (next a bytes place)) → Ends R Q (after r next)
  unfolding after
  after-ends (fault f place) next h k = h
  after-ends (got a bytes place) next h k = k a bytes place h

module _ {A B : Type 0} (R : B → List ℕ → ℕ → Type 0) (Q : Refusal → ℕ → Type 0) where
  -- either way, by a test
  pub one-ends : (good : Bool) (r : Read A) (next : A → Reader B) (a : A) (rest : List ℕ) (to : ℕ) (f : Refusal) (at : ℕ)
      → (T good → r ≡ got a rest to) → (T (not good) → r ≡ fault f at) → (T good → Ends R Q (next a rest to)) → (T (not good) → Q f at)
      → Ends R Q (after r next)
  unfolding after
  one-ends good r next a rest to f at reads fails then bad =
      ⊎_elim (λ t. rw (reads t) (then t)) (λ t. rw (fails t) (bad t)) (split good)

-- ---- several of one kind: element i of n at a place, its value, and whether it is good
module _ {A : Type 0} (bytes : List ℕ) (beyond : A) (n : ℕ) (at : ℕ → ℕ) (value : ℕ → A) (good : ℕ → Bool) where
  -- k of them, from element i on, and all are good
  pub record Several (k i : ℕ) (xs : List A) (rest : List ℕ) (place : ℕ) : Type 0 where
    pub values : (j : ℕ) → j < k → get_or xs j beyond ≡ value (i + j)
    pub goods : (j : ℕ) → j < n → T (good j)
    pub is_rest : rest ≡ drop (at n) bytes
    pub is_place : place ≡ at n

module _ {A : Type 0} (bytes : List ℕ) (beyond : A) (n : ℕ) (at : ℕ → ℕ) (value : ℕ → A) (good : ℕ → Bool)
    (Q : Refusal → ℕ → Type 0) (one : ℕ → Reader A) (f : Refusal)
    (reads : (i : ℕ) → i < n → T (good i) → one i (drop (at i) bytes) (at i) ≡ got (value i) (drop (at (suc i)) bytes) (at (suc i)))
    (fails : (i : ℕ) → i < n → T (not (good i)) → one i (drop (at i) bytes) (at i) ≡ fault f (at i))
    (bad : (i : ℕ) → i < n → ((j : ℕ) → j < i → T (good j)) → T (not (good i)) → Q f (at i)) where
  abbrev Are : ℕ → ℕ → List A → List ℕ → ℕ → Type 0
  Are = Several bytes beyond n at value good

  pub each-ends : (k i : ℕ) → i + k ≡ n → ((j : ℕ) → j < i → T (good j)) → Ends (Are k i) Q (each i k one (drop (at i) bytes) (at i))
  unfolding each after
  each-ends zero i e h =
      let q : i ≡ n = omega arith in
      record {
        values = λ j l. absurd (omega arith);
        goods = λ j l. h j (omega arith);
        is_rest = ap (λ (m : ℕ). drop (at m) bytes) q;
        is_place = ap at q;
      }
  each-ends (suc k) i e h =
      one-ends (Are (suc k) i) Q (good i) (one i (drop (at i) bytes) (at i)) _ (value i) (drop (at (suc i)) bytes) (at (suc i)) f (at i)
      (reads i (omega arith)) (fails i (omega arith))
      (λ t. after-ends (Are k (suc i)) (Are (suc k) i) Q (each (suc i) k one (drop (at (suc i)) bytes) (at (suc i))) _
      (each-ends k (suc i) (omega arith) (further t)) (λ xs rest place s. record {
        values = first xs s.values;
        goods = s.goods;
        is_rest = s.is_rest;
        is_place = s.is_place;
      })) (bad i (omega arith) h)
    where
      further : T (good i) → (j : ℕ) → j < suc i → T (good j)
      further t j l =
          ⊎_elim (λ y. h j (ltb→lt j i y))
          (λ y. let q : i ≡ j = (let z = nltb→le j i y in omega arith) in subst (λ (m : ℕ). T (good m)) q t)
          (split (ltb j i))

      first : (xs : List A) → ((j : ℕ) → j < k → get_or xs j beyond ≡ value (suc i + j)) → (j : ℕ) → j < suc k
          → get_or (value i ∷ xs) j beyond ≡ value (i + j)
      first xs v zero l = ap value (let q : i ≡ i + 0 = omega arith in q)
      first xs v (suc j) l = v j (omega arith) ∙ ap value (let q : suc i + j ≡ i + suc j = omega arith in q)
