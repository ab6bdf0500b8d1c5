-- A trimmed proof: how long it is, and what stands at the number that a needed step gets.
use Rattle.std.specs.Prelude.{◌≡◌, refl, ◌⊎◌, List, ℕ, suc, ◌*◌, ◌-◌, ◌≤◌, ◌<◌, T, length}
use Rattle.std.proofs.Common.{sym, ap, ◌∙◌, inl, inr, ⊎_elim, arith}
use Rattle.rules_types.specs.declared.limits.Limits.{Limits}
use Rattle.rules_types.specs.Limits as limit
use Rattle.rules_types.specs.Layout as layout
use Rattle.rules.specs.Bytes.{field_at}
use Rattle.rules.specs.Steps.{step_at}
use Rattle.rules.specs.Trim.{is_loaded, step_count, needed, count_below, renumbered, trimmed}
use Rattle.theory_lists.specs.Tests.{split, is_true, is_false}
use Rattle.theory_trimming.specs.Statements.{how, first_of, second_of, Parent}
use Rattle.theory_trimming.specs.Ordered.{Trimmable}
use Rattle.theory_trimming.specs.Count.{count_yes, count_most, count-below}
use Rattle.theory_trimming.specs.StepFields.{how-at, first-at, second_at, how-loaded, how-resolved}
use Rattle.theory_trimming.specs.WithParents.{with_parents, renumbered-loaded, renumbered-with, with_first, with_second, with-others}
use Rattle.theory_trimming.specs.Kept.{length-step_at, length-kept, kept_at}
use Rattle.theory_trimming.specs.Wanted.{parent-before}
use Rattle.theory_trimming.specs.Needed.{needed-last, needed-below, needed-parent}

-- the number that step j gets, and how many get one
abbrev pub number_of : List ℕ → ℕ → ℕ
number_of proof = count_below (needed proof)

abbrev pub short_count : List ℕ → ℕ
short_count proof = number_of proof (step_count proof)

module _ {limits : Limits} {proof : List ℕ} (c : Trimmable limits proof) where
  -- ---- its length
  pub trimmed-length : length (trimmed proof) ≡ limit.step_bytes * short_count proof
  unfolding trimmed
  trimmed-length = length-kept proof (needed proof) (step_count proof) (omega (arith, c.whole))

  pub trimmed-count : step_count (trimmed proof) ≡ short_count proof
  unfolding step_count
  trimmed-count = omega (arith, trimmed-length)

  -- the last step stays the last
  pub last-number : suc (number_of proof (step_count proof - 1)) ≡ short_count proof
  last-number =
      let e : suc (step_count proof - 1) ≡ step_count proof = omega (arith, c.some) in
      sym (count_yes (needed proof) (step_count proof - 1) (needed-last c)) ∙ ap (number_of proof) e

  pub trimmed-some : 1 ≤ short_count proof
  trimmed-some = omega (arith, last-number)

  pub trimmed-few : short_count proof ≤ step_count proof
  trimmed-few = count_most (needed proof) (step_count proof)

  -- ---- its steps
  module _ (j : ℕ) (t : T (needed proof j)) where
    pub number-below : number_of proof j < short_count proof
    number-below = count-below (needed proof) j (step_count proof) t (needed-below c j t)

    pub trimmed-at : step_at (trimmed proof) (number_of proof j) ≡ renumbered (number_of proof) (step_at proof j)
    unfolding trimmed
    trimmed-at = kept_at proof (needed proof) (step_count proof) j (omega (arith, c.whole)) t (needed-below c j t)

    pub step-length : length (step_at proof j) ≡ limit.step_bytes
    step-length = length-step_at proof j (omega (arith, c.whole, needed-below c j t))

    pub others_same : (place : ℕ) → place < limit.step_bytes → (place < 2) ⊎ (6 ≤ place)
        → field_at place 1 (step_at (trimmed proof) (number_of proof j)) ≡ field_at place 1 (step_at proof j)
    others_same place h o =
        let step = step_at proof j in
        rw trimmed-at
        (⊎_elim (λ s. rw (renumbered-loaded (number_of proof) step (is_true (is_loaded step) s)))
        (λ s. rw (renumbered-with (number_of proof) step (is_false (is_loaded step) s))
        (with-others (number_of proof (field_at layout.step_first 2 step)) (number_of proof (field_at layout.step_second 2 step)) step
        (omega (arith, step-length)) place o)) (split (is_loaded step)))

    pub how-same : how (trimmed proof) (number_of proof j) ≡ how proof j
    how-same = sym (how-at (trimmed proof) (number_of proof j)) ∙ others_same 0 (omega arith) (inl (omega arith)) ∙ how-at proof j

    pub loaded-same : how proof j ≡ 0 → step_at (trimmed proof) (number_of proof j) ≡ step_at proof j
    loaded-same h = trimmed-at ∙ renumbered-loaded (number_of proof) (step_at proof j) (how-loaded proof j h)

    -- ---- of a resolvent
    module _ (r : 1 ≤ how proof j) where
      pub first-parent : Parent proof j (first_of proof j)
      first-parent = (r, inl refl)

      pub second-parent : Parent proof j (second_of proof j)
      second-parent = (r, inr refl)

      pub parents-below : (i : ℕ) → Parent proof j i → (i < j) × (number_of proof i < number_of proof j)
      parents-below i p =
          let b = parent-before proof c.ordered j i (needed-below c j t) p in
          (b, count-below (needed proof) i j (needed-parent c j i t p) b)

      pub resolved-with : step_at (trimmed proof) (number_of proof j)
          ≡ with_parents (number_of proof (first_of proof j)) (number_of proof (second_of proof j)) (step_at proof j)
      resolved-with =
          trimmed-at ∙ renumbered-with (number_of proof) (step_at proof j) (how-resolved proof j r)
          ∙ (λ i. with_parents (number_of proof (first-at proof j i)) (number_of proof (second_at proof j i)) (step_at proof j))

      module _ (most : limits.steps ≤ limit.most_steps) where
        pub first-number : first_of (trimmed proof) (number_of proof j) ≡ number_of proof (first_of proof j)
        first-number =
            let b = parents-below (first_of proof j) first-parent in
            sym (first-at (trimmed proof) (number_of proof j)) ∙ ap (field_at layout.step_first 2) resolved-with
            ∙ with_first (number_of proof (first_of proof j)) (number_of proof (second_of proof j)) (step_at proof j)
            (omega (arith, step-length)) (omega (arith, b, c.few, trimmed-few, number-below))

        pub second-number : second_of (trimmed proof) (number_of proof j) ≡ number_of proof (second_of proof j)
        second-number =
            let b = parents-below (second_of proof j) second-parent in
            sym (second_at (trimmed proof) (number_of proof j)) ∙ ap (field_at layout.step_second 2) resolved-with
            ∙ with_second (number_of proof (first_of proof j)) (number_of proof (second_of proof j)) (step_at proof j)
            (omega (arith, step-length)) (omega (arith, b, c.few, trimmed-few, number-below))
