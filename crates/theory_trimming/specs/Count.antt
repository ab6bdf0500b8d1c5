-- How many numbers below one are kept: what `count_below` counts, and back, the kept number that has so many below it.
use Rattle.std.specs.Prelude.{◌≡◌, Bool, not, cond, T, ltb}
use Rattle.std.proofs.Math.Path.{refl, ap, subst}
use Rattle.std.proofs.Common.{sym, ◌∙◌, eq-or-lt_of_le, ltb→lt}
use Rattle.std.proofs.Math.Logic.{⊎_elim}
use Prim.Native.Nat.{ℕ, zero, suc, ◌≤◌, ◌<◌}
use native.Mathlib.Omega.{arith}
use Rattle.std.proofs.Math.Dec.{nltb→le}
use Rattle.rules.specs.Trim.{count_below}
use Rattle.theory_lists.specs.Tests.{split, is_true, is_false}

module _ (keeps : ℕ → Bool) where
  pub count_yes : (k : ℕ) → T (keeps k) → count_below keeps (suc k) ≡ suc (count_below keeps k)
  unfolding count_below
  count_yes k h = rw (is_true (keeps k) h) (omega arith)

  pub count_no : (k : ℕ) → T (not (keeps k)) → count_below keeps (suc k) ≡ count_below keeps k
  unfolding count_below
  count_no k h = rw (is_false (keeps k) h) (omega arith)

  count-step : (k : ℕ) → (count_below keeps k ≤ count_below keeps (suc k)) × (count_below keeps (suc k) ≤ suc (count_below keeps k))
  count-step k = ⊎_elim (λ t. omega (arith, count_yes k t)) (λ t. omega (arith, count_no k t)) (split (keeps k))

  pub count_most : (k : ℕ) → count_below keeps k ≤ k
  unfolding count_below
  count_most zero = omega arith
  count_most (suc k) = omega (arith, count_most k, count-step k)

  pub count-grows : (j k : ℕ) → j ≤ k → count_below keeps j ≤ count_below keeps k
  unfolding count_below
  count-grows j zero h = let e : j ≡ 0 = omega arith in rw e (omega arith)
  count-grows j (suc k) h =
      ⊎_elim (λ e. subst (λ (n : ℕ). count_below keeps j ≤ count_below keeps n) e (omega arith))
      (λ l. omega (arith, count-grows j k (omega arith), count-step k)) (eq-or-lt_of_le h)

  -- a kept number is counted
  pub count-below : (j k : ℕ) → T (keeps j) → j < k → count_below keeps j < count_below keeps k
  count-below j k t h = omega (arith, count_yes j t, count-grows (suc j) k h)

  -- two kept numbers with as many below them are one
  pub count-one : (i j : ℕ) → T (keeps i) → T (keeps j) → count_below keeps i ≡ count_below keeps j → i ≡ j
  count-one i j s t e =
      ⊎_elim (λ a. absurd (omega (arith, count-below i j s (ltb→lt i j a))))
      (λ a. let b = nltb→le i j a in
      ⊎_elim (λ q. sym q) (λ c. absurd (omega (arith, count-below j i t c))) (eq-or-lt_of_le b)) (split (ltb i j))

  pub count-all : (k : ℕ) → ((i : ℕ) → i < k → T (keeps i)) → count_below keeps k ≡ k
  unfolding count_below
  count-all zero h = refl
  count-all (suc k) h = count_yes k (h k (omega arith)) ∙ ap suc (count-all k (λ i l. h i (omega arith)))

  -- ---- and back: of those below k, the one with i below it
  pub old : ℕ → ℕ → ℕ
  old zero i = 0
  old (suc k) i = cond (ltb i (count_below keeps k)) (old k i) k

  pub record OldAt (k i j : ℕ) : Type 0 where
    pub below : j < k
    pub kept : T (keeps j)
    pub number : count_below keeps j ≡ i

  pub old-at : (k i : ℕ) → i < count_below keeps k → OldAt k i (old k i)
  unfolding old count_below
  old-at zero i h = absurd (omega arith)
  old-at (suc k) i h =
      ⊎_elim (λ t. let r = old-at k i (ltb→lt i (count_below keeps k) t) in
      rw (is_true (ltb i (count_below keeps k)) t) (record { below = omega (arith, r.below); kept = r.kept; number = r.number }))
      (λ t. let b = nltb→le i (count_below keeps k) t in
      rw (is_false (ltb i (count_below keeps k)) t)
      (⊎_elim (λ y. record { below = omega arith; kept = y; number = omega (arith, count_yes k y) })
      (λ n. absurd (omega (arith, count_no k n))) (split (keeps k)))) (split (ltb i (count_below keeps k)))

  pub old-count : (k j : ℕ) → T (keeps j) → j < k → old k (count_below keeps j) ≡ j
  old-count k j t h =
      let r = old-at k (count_below keeps j) (count-below j k t h) in
      count-one (old k (count_below keeps j)) j r.kept t r.number

  pub old-rises : (k i j : ℕ) → i < j → j < count_below keeps k → old k i < old k j
  old-rises k i j l h =
      let a = old-at k i (omega arith) in
      let b = old-at k j h in
      ⊎_elim (λ t. ltb→lt (old k i) (old k j) t)
      (λ t. absurd (omega (arith, count-grows (old k j) (old k i) (nltb→le (old k i) (old k j) t), a.number, b.number)))
      (split (ltb (old k i) (old k j)))
