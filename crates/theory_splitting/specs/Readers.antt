-- What a reader makes sure of: a claim of every value that it gives, whatever the bytes, through sequence, repetition and tested fields.
use Rattle.std.specs.Prelude.{◌≡◌, refl, Bool, true, false, List, ℕ, zero, suc, T, length}
use Rattle.std.proofs.Common.{ap}
use Rattle.rules_types.specs.declared.answers.Refusal.{Refusal}
use Rattle.theory_lists.specs.Tests.{of-true}
use Rattle.theory_lists.specs.All.{All}
use Rattle.rules.specs.Problem.{Read, fault, got, Reader, after, ◌>>=◌, repeat, number, tested, field}

module _ {A : Type 0} where
  -- a fault, or a value that is so
  abbrev pub Gives : (A → Type 0) → Read A → Type 0
  Gives P (fault f place) = Unit {0}
  Gives P (got a bytes place) = P a

  abbrev pub Yields : (A → Type 0) → Reader A → Type 0
  Yields P reader = (bytes : List ℕ) (place : ℕ) → Gives P (reader bytes place)

  pub gives-any : (r : Read A) → Gives (λ a. Unit {0}) r
  gives-any (fault f place) = tt
  gives-any (got a bytes place) = tt

module _ {A B : Type 0} (P : A → Type 0) (R : B → Type 0) where
  pub after-gives : (r : Read A) (next : A → Reader B) → Gives P r → ((a : A) → P a → Yields R (next a)) → Gives R (after r next)
  unfolding after
  after-gives (fault e place) next h f = tt
  after-gives (got a bytes place) next h f = f a h bytes place

  pub then-yields : (first : Reader A) (next : A → Reader B) → Yields P first → ((a : A) → P a → Yields R (next a))
      → Yields R (◌>>=◌ first next)
  then-yields first next h f bytes place = after-gives (first bytes place) next (h bytes place) f

-- ---- repetition
pub repeat-yields : {A : Type 0} (P : A → Type 0) (one : Reader A) → Yields P one → (k : ℕ)
    → Yields (λ xs. All P xs × (length xs ≡ k)) (repeat k one)
unfolding repeat
repeat-yields P one h zero = λ bytes place. (tt, refl)
repeat-yields P one h (suc k) =
    then-yields P (λ xs. All P xs × (length xs ≡ suc k)) one _ h
    (λ x p. then-yields (λ xs. All P xs × (length xs ≡ k)) (λ xs. All P xs × (length xs ≡ suc k)) (repeat k one) _
    (repeat-yields P one h k) (λ xs q bytes place. ((p, q.0), ap suc q.1)))

-- ---- a tested field
tested-yields : (good : ℕ → Bool) (f : Refusal) (start value : ℕ) (b : Bool) → good value ≡ b
    → Yields (λ n. T (good n)) (tested b f start value)
unfolding tested
tested-yields good f start value true e = λ bytes place. of-true (good value) e
tested-yields good f start value false e = λ bytes place. tt

field-yields : (size : ℕ) (good : ℕ → Bool) (f : Refusal) → Yields (λ n. T (good n)) (field size good f)
unfolding field
field-yields size good f bytes place =
    after-gives (λ n. Unit {0}) (λ n. T (good n)) (number size bytes place) (λ value. tested (good value) f place value)
    (gives-any (number size bytes place))
    (λ value u. tested-yields good f place value (good value) refl)

-- ---- a field, or a repetition, and what comes next
module _ {B : Type 0} (R : B → Type 0) where
  pub field-then : (size : ℕ) (good : ℕ → Bool) (f : Refusal) (next : ℕ → Reader B) → ((n : ℕ) → T (good n) → Yields R (next n))
      → Yields R (◌>>=◌ (field size good f) next)
  field-then size good f next h = then-yields (λ n. T (good n)) R (field size good f) next (field-yields size good f) h

  pub repeat-then : {A : Type 0} (P : A → Type 0) (one : Reader A) (k : ℕ) (next : List A → Reader B) → Yields P one
      → ((xs : List A) → All P xs → length xs ≡ k → Yields R (next xs))
      → Yields R (◌>>=◌ (repeat k one) next)
  repeat-then P one k next o h =
      then-yields (λ xs. All P xs × (length xs ≡ k)) R (repeat k one) next (repeat-yields P one o k) (λ xs t. h xs t.0 t.1)
