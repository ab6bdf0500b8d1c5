-- Fields of one size, one behind another and none cut short: read to the first that its test refuses, and what a loop keeps of them.
use Rattle.std.specs.Prelude.{◌≡◌, Bool, true, false, List, length, drop, get_or}
use Rattle.std.proofs.Math.Path.{refl, sym, ap}
use Rattle.std.proofs.Common.{◌∙◌, ⊎_elim, eq-zero-or-pos}
use Prim.Native.Nat.{ℕ, zero, suc, ◌+◌, ◌*◌, ◌-◌, ◌≤◌, ◌<◌}
use Rattle.std.proofs.Math.Nat.{suc-mul}
use native.Mathlib.Omega.{arith}
use Rattle.rules_types.specs.declared.answers.Refusal.TheVariants as refusal
use Rattle.rules.specs.Problem.{Read, fault, got, Reader, after, each}
use Rattle.problem_scan.specs.Values.{values_at}

-- read up to a place
abbrev pub read_to : {A : Type 0} → List ℕ → ℕ → A → Read A
read_to s place a = got a (drop place s) place

-- readers of fields by their numbers, each with its test of what stands at a place
pub record Tested {A : Type 0} (s : List ℕ) (one : ℕ → Reader A) (size : ℕ) (test : ℕ → ℕ → Bool) (value : ℕ → A) : Type 0 where
  pub good : (i at : ℕ) → at + size ≤ length s → test i at ≡ true → one i (drop at s) at ≡ got (value at) (drop (at + size) s) (at + size)
  pub bad : (i at : ℕ) → at + size ≤ length s → test i at ≡ false → one i (drop at s) at ≡ fault refusal.BadModel at

module _ {A : Type 0} {s : List ℕ} {one : ℕ → Reader A} {size : ℕ} {test : ℕ → ℕ → Bool} {value : ℕ → A}
    (tested : Tested s one size test value) where
  -- k fields from number i on pass their tests; and so do those behind the first
  abbrev Pass : ℕ → ℕ → ℕ → Type 0
  Pass i k at = (j : ℕ) → j < k → test (i + j) (at + j * size) ≡ true

  later : (i k at : ℕ) → Pass i (suc k) at → Pass (suc i) k (at + size)
  later i k at h j l =
      let e : at + suc j * size ≡ at + size + j * size = omega (arith, suc-mul j size) in
      let n : i + suc j ≡ suc i + j = omega arith in
      rw (e, n) at (h (suc j) (omega arith))

  first : (i k at : ℕ) → Pass i (suc k) at → test i at ≡ true
  first i k at h = let e : at + 0 * size ≡ at = omega arith in let n : i + 0 ≡ i = omega arith in rw (e, n) at (h 0 (omega arith))

  pub each-good : (k i at : ℕ) → at + k * size ≤ length s → Pass i k at
      → each i k one (drop at s) at ≡ read_to s (at + k * size) (values_at value size k at)
  unfolding each after values_at
  each-good zero i at h t = let e : at + 0 * size ≡ at = omega arith in rw e
  each-good (suc k) i at h t =
      let e : at + size + k * size ≡ at + suc k * size = omega (arith, suc-mul k size) in
      rw (tested.good i at (omega arith) (first i k at t), each-good k (suc i) (at + size) (omega arith) (later i k at t), e)

  pub each-bad : (n k i at : ℕ) → n < k → at + k * size ≤ length s → Pass i n at → test (i + n) (at + n * size) ≡ false
      → each i k one (drop at s) at ≡ fault refusal.BadModel (at + n * size)
  unfolding each after
  each-bad n zero i at l h t f = absurd (omega arith)
  each-bad zero (suc k) i at l h t f =
      let e : at + 0 * size ≡ at = omega arith in
      let z : i + 0 ≡ i = omega arith in
      rw (e, tested.bad i at (omega (arith, suc-mul k size)) (rw (e, z) at f))
  each-bad (suc n) (suc k) i at l h t f =
      let e : at + size + n * size ≡ at + suc n * size = omega (arith, suc-mul n size) in
      let z : suc i + n ≡ i + suc n = omega arith in
      rw (
        tested.good i at (omega (arith, suc-mul k size)) (first i n at t),
        each-bad n k (suc i) (at + size) (omega arith) (omega (arith, suc-mul k size)) (later i n at t) (rw (sym e, sym z) at f),
        e,
      )

-- ---- a loop: the first n tests are passed, and n values are kept in front of those that are not there
pub record Filled {A : Type 0} (test : ℕ → Bool) (value : ℕ → A) (none : A) (n : ℕ) (kept : ℕ → A) : Type 0 where
  pub passed : (j : ℕ) → j < n → test j ≡ true
  pub here : (j : ℕ) → j < n → kept j ≡ value j
  pub beyond : (j : ℕ) → n ≤ j → kept j ≡ none

module _ {A : Type 0} {test : ℕ → Bool} {value : ℕ → A} {none : A} where
  pub filled_none : {kept : ℕ → A} → ((j : ℕ) → kept j ≡ none) → Filled test value none 0 kept
  filled_none h = record { passed = λ j l. absurd (omega arith); here = λ j l. absurd (omega arith); beyond = λ j l. h j }

  pub filled_more : {n : ℕ} {kept next : ℕ → A} → Filled test value none n kept → test n ≡ true → next n ≡ value n
      → ((j : ℕ) → (j ≡ n → ⊥) → next j ≡ kept j) → Filled test value none (n + 1) next
  filled_more {n} {kept} {next} f t v o =
      record {
        passed = λ j l. ⊎_elim (λ z. let e : j ≡ n = omega arith in rw e t) (λ z. f.passed j (omega arith)) (eq-zero-or-pos (n - j));
        here = λ j l. ⊎_elim (λ z. let e : j ≡ n = omega arith in rw e v) (λ z. o j (λ e. omega arith) ∙ f.here j (omega arith))
            (eq-zero-or-pos (n - j));
        beyond = λ j l. o j (λ e. omega arith) ∙ f.beyond j (omega arith);
      }

-- ---- so many values, by their index
module _ {A : Type 0} (value : ℕ → A) (size : ℕ) (none : A) where
  value-here : (k at j : ℕ) → j < k → get_or (values_at value size k at) j none ≡ value (at + j * size)
  unfolding values_at
  value-here zero at j l = absurd (omega arith)
  value-here (suc k) at zero l = let e : at ≡ at + 0 * size = omega arith in ap value e
  value-here (suc k) at (suc j) l = let e : at + size + j * size ≡ at + suc j * size = omega (arith, suc-mul j size) in
      value-here k (at + size) j (omega arith) ∙ ap value e

  value-beyond : (k at j : ℕ) → k ≤ j → get_or (values_at value size k at) j none ≡ none
  unfolding values_at
  value-beyond zero at j l = refl
  value-beyond (suc k) at zero l = absurd (omega arith)
  value-beyond (suc k) at (suc j) l = value-beyond k (at + size) j (omega arith)

  -- what the loop kept is made of them
  pub filled-values : {B : Type 0} {test : ℕ → Bool} {kept : ℕ → B} (make : A → B) (k at : ℕ)
      → Filled test (λ j. make (value (at + j * size))) (make none) k kept
      → (j : ℕ) → kept j ≡ make (get_or (values_at value size k at) j none)
  filled-values make k at f j = ⊎_elim
      (λ z. f.beyond j (omega arith) ∙ ap make (sym (value-beyond k at j (omega arith))))
      (λ z. f.here j (omega arith) ∙ ap make (sym (value-here k at j (omega arith))))
      (eq-zero-or-pos (k - j))
