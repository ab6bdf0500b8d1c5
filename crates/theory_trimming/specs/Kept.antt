-- The steps that are kept: 64 bytes each, and each at the number that it gets.
use Rattle.std.specs.Prelude.{◌≡◌, Bool, not, List, ◌++◌, T, length, drop}
use Rattle.std.proofs.Math.Path.{refl, sym, ap}
use Rattle.std.proofs.Common.{◌∙◌, subst, append-nil, eq-or-lt_of_le, length-drop, take_all, length-take-le, take-add, drop_at}
use Rattle.std.proofs.Math.Logic.{⊎_elim}
use Prim.Native.Nat.{ℕ, zero, suc, ◌+◌, ◌*◌, ◌≤◌, ◌<◌}
use native.Mathlib.Omega.{arith}
use Rattle.std.proofs.Math.ListN.{take, length-append}
use Rattle.std.proofs.lemmas.List.{take-append-le, drop-append-le}
use Rattle.rules_types.specs.Limits as limit
use Rattle.rules.specs.Steps.{step_at}
use Rattle.rules.specs.Trim.{count_below, renumbered, kept_steps}
use Rattle.theory_lists.specs.Tests.{split, is_true, is_false}
use Rattle.theory_trimming.specs.Count.{count_yes, count_no, count-below}
use Rattle.theory_trimming.specs.WithParents.{length-renumbered}

-- ---- steps at their places
pub length-step_at : (proof : List ℕ) (i : ℕ) → limit.step_bytes * suc i ≤ length proof → length (step_at proof i) ≡ limit.step_bytes
unfolding step_at
length-step_at proof i h =
    length-take-le limit.step_bytes (drop (limit.step_bytes * i) proof) (omega (arith, length-drop (limit.step_bytes * i) proof))

pub step_at-front : (s t : List ℕ) (i : ℕ) → limit.step_bytes * suc i ≤ length s → step_at (s ++ t) i ≡ step_at s i
unfolding step_at
step_at-front s t i h =
    rw (drop-append-le (limit.step_bytes * i) s t (omega arith))
    (take-append-le limit.step_bytes (drop (limit.step_bytes * i) s) t (omega (arith, length-drop (limit.step_bytes * i) s)))

pub step_at-behind : (s t : List ℕ) (i : ℕ) → length s ≡ limit.step_bytes * i → length t ≡ limit.step_bytes → step_at (s ++ t) i ≡ t
unfolding step_at
step_at-behind s t i h k = rw (drop_at s t (limit.step_bytes * i) h) (take_all limit.step_bytes t (omega arith))

-- ---- all that are kept of the first k
module _ (proof : List ℕ) (keeps : ℕ → Bool) where
  abbrev now : ℕ → List ℕ
  now k = renumbered (count_below keeps) (step_at proof k)

  pub kept-yes : (k : ℕ) → T (keeps k) → kept_steps proof keeps (suc k) ≡ kept_steps proof keeps k ++ now k
  unfolding kept_steps
  kept-yes k h = rw (is_true (keeps k) h)

  pub kept-no : (k : ℕ) → T (not (keeps k)) → kept_steps proof keeps (suc k) ≡ kept_steps proof keeps k
  unfolding kept_steps
  kept-no k h = rw (is_false (keeps k) h) (append-nil (kept_steps proof keeps k))

  length-now : (k : ℕ) → limit.step_bytes * suc k ≤ length proof → length (now k) ≡ limit.step_bytes
  length-now k h = length-renumbered (count_below keeps) (step_at proof k) (length-step_at proof k h)

  pub length-kept : (k : ℕ) → limit.step_bytes * k ≤ length proof
      → length (kept_steps proof keeps k) ≡ limit.step_bytes * count_below keeps k
  unfolding kept_steps count_below
  length-kept zero h = refl
  length-kept (suc k) h =
      let r = length-kept k (omega arith) in
      ⊎_elim (λ t. rw (kept-yes k t, count_yes keeps k t)
      (omega (arith, length-append (kept_steps proof keeps k) (now k), length-now k h, r)))
      (λ t. rw (kept-no k t, count_no keeps k t) r) (split (keeps k))

  -- step j of the proof, if it is kept
  pub kept_at : (k j : ℕ) → limit.step_bytes * k ≤ length proof → T (keeps j) → j < k
      → step_at (kept_steps proof keeps k) (count_below keeps j) ≡ now j
  kept_at zero j h t l = absurd (omega arith)
  kept_at (suc k) j h t l = ⊎_elim here (λ b. before b (kept_at k j (omega arith) t b)) (eq-or-lt_of_le {n = j} {m = k} (omega arith))
    where
      size : length (kept_steps proof keeps k) ≡ limit.step_bytes * count_below keeps k
      size = length-kept k (omega arith)

      here : j ≡ k → step_at (kept_steps proof keeps (suc k)) (count_below keeps j) ≡ now j
      here e = subst (λ (i : ℕ). T (keeps i) → step_at (kept_steps proof keeps (suc k)) (count_below keeps i) ≡ now i) (sym e)
          (λ s. rw (kept-yes k s) (step_at-behind (kept_steps proof keeps k) (now k) (count_below keeps k) size (length-now k h))) t

      before : suc j ≤ k → step_at (kept_steps proof keeps k) (count_below keeps j) ≡ now j
          → step_at (kept_steps proof keeps (suc k)) (count_below keeps j) ≡ now j
      before b r =
          ⊎_elim (λ s. rw (kept-yes k s)
          (step_at-front (kept_steps proof keeps k) (now k) (count_below keeps j) (omega (arith, size, count-below keeps j k t b)) ∙ r))
          (λ s. rw (kept-no k s) r) (split (keeps k))

  -- if all are kept as they are
  pub kept-all : (k : ℕ) → limit.step_bytes * k ≤ length proof → ((i : ℕ) → i < k → T (keeps i))
      → ((i : ℕ) → i < k → now i ≡ step_at proof i) → kept_steps proof keeps k ≡ take (limit.step_bytes * k) proof
  unfolding kept_steps step_at
  kept-all zero h t e = refl
  kept-all (suc k) h t e =
      let n : limit.step_bytes * suc k ≡ limit.step_bytes * k + limit.step_bytes = omega arith in
      let r = kept-all k (omega arith) (λ i l. t i (omega arith)) (λ i l. e i (omega arith)) in
      kept-yes k (t k (omega arith)) ∙ (λ i. r i ++ e k (omega arith) i)
      ∙ sym (take-add (limit.step_bytes * k) limit.step_bytes proof) ∙ ap (λ (m : ℕ). take m proof) (sym n)
