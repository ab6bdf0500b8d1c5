-- THE THEOREM: a proof that was trimmed is not trimmed any further, for its last step descends from every other.
use Rattle.std.specs.Prelude.{◌≡◌, false, not, List, ℕ, zero, suc, ◌*◌, ◌-◌, ◌≤◌, ◌<◌, T}
use Rattle.std.proofs.Common.{sym, ap, ◌∙◌, subst, inl, inr, ⊎_elim, arith}
use Rattle.std.proofs.Math.Seq.{take_all}
use Rattle.rules_types.specs.declared.limits.Limits.{Limits}
use Rattle.rules_types.specs.Limits as limit
use Rattle.rules_types.specs.Layout as layout
use Rattle.rules.specs.Bytes.{field_at}
use Rattle.rules.specs.Steps.{step_at}
use Rattle.rules.specs.Trim.{is_loaded, step_count, needed, renumbered, trimmed}
use Rattle.theory_lists.specs.Tests.{split, is_true, is_false}
use Rattle.theory_trimming.specs.Statements.{how, first_of, second_of, Parent, Generations}
use Rattle.theory_trimming.specs.Ordered.{Ordered, Trimmable}
use Rattle.theory_trimming.specs.Count.{count-all, old-at}
use Rattle.theory_trimming.specs.StepFields.{first-at, second_at, resolved-how}
use Rattle.theory_trimming.specs.WithParents.{with_parents, renumbered-loaded, renumbered-with, with-again}
use Rattle.theory_trimming.specs.Kept.{kept-all}
use Rattle.theory_trimming.specs.Needed.{needed-exactly}
use Rattle.theory_trimming.specs.Trimmed.{number_of, trimmed-length, trimmed-count, last-number, trimmed-some, trimmed-few}
use Rattle.theory_trimming.specs.Trimmed.{number-below, step-length, how-same, first-parent, second-parent, parents-below}
use Rattle.theory_trimming.specs.Trimmed.{resolved-with, first-number, second-number}
use Rattle.theory_trimming.specs.Short.{old_of}

module _ {limits : Limits} {proof : List ℕ} (c : Trimmable limits proof) (most : limits.steps ≤ limit.most_steps) where
  abbrev short : List ℕ
  short = trimmed proof

  -- what holds at the number of each needed step holds of every step of the trimmed proof
  each_number : (P : ℕ → Type 0) → ((j : ℕ) → T (needed proof j) → P (number_of proof j)) → (i : ℕ) → i < step_count short → P i
  each_number P f i h =
      let r = old-at (needed proof) (step_count proof) i (omega (arith, trimmed-count c)) in
      subst P r.number (f (old_of proof i) r.kept)

  -- the parents of a resolvent get their numbers before it
  numbers-before : (j : ℕ) → T (needed proof j) → 1 ≤ how proof j
      → (first_of short (number_of proof j) < number_of proof j) × (second_of short (number_of proof j) < number_of proof j)
  numbers-before j t r =
      omega (
        arith,
        first-number c j t r most,
        parents-below c j t r (first_of proof j) (first-parent c j t r),
        second-number c j t r most,
        parents-below c j t r (second_of proof j) (second-parent c j t r),
      )

  -- ---- it can be trimmed
  trimmed-ordered : Ordered short
  trimmed-ordered = record { parents = λ k h e. each_number Before before k h e }
    where
      Before : ℕ → Type 0
      Before k = is_loaded (step_at short k) ≡ false
          → (field_at layout.step_first 2 (step_at short k) < k) × (field_at layout.step_second 2 (step_at short k) < k)

      before : (j : ℕ) → T (needed proof j) → Before (number_of proof j)
      before j t e =
          let i = number_of proof j in
          let r : 1 ≤ how proof j = omega (arith, resolved-how short i e, how-same c j t) in
          omega (arith, numbers-before j t r, first-at short i, second_at short i)

  pub trimmed-trimmable : Trimmable limits short
  trimmed-trimmable = record {
    whole = omega (arith, trimmed-length c, trimmed-count c);
    some = omega (arith, trimmed-some c, trimmed-count c);
    few = omega (arith, trimmed-few c, trimmed-count c, c.few);
    ordered = trimmed-ordered;
  }

  -- ---- every step of it is needed
  parent-again : (i j : ℕ) → T (needed proof i) → Parent proof i j → Parent short (number_of proof i) (number_of proof j)
  parent-again i j t (r, p) = (
    rw (how-same c i t) r,
    ⊎_elim (λ e. inl (first-number c i t r most ∙ ap (number_of proof) e))
        (λ e. inr (second-number c i t r most ∙ ap (number_of proof) e)) p,
  )

  generations-again : (d j : ℕ) → Generations proof (step_count proof - 1) d j
      → Generations short (step_count short - 1) d (number_of proof j)
  generations-again zero j e =
      let z : step_count short - 1 ≡ number_of proof (step_count proof - 1) = omega (arith, trimmed-count c, last-number c) in
      z ∙ ap (number_of proof) e
  generations-again (suc d) j (i, g, p) =
      (number_of proof i, generations-again d i g, parent-again i j ((needed-exactly c i).1 (d, g)) p)

  needed-again : (i : ℕ) → i < step_count short → T (needed short i)
  needed-again = each_number (λ i. T (needed short i))
      (λ j t. let d = (needed-exactly c j).0 t in
      (needed-exactly trimmed-trimmable (number_of proof j)).1 (d.0, generations-again d.0 j d.1))

  same_number : (i : ℕ) → i ≤ step_count short → number_of short i ≡ i
  same_number i h = count-all (needed short) i (λ j l. needed-again j (omega arith))

  -- ---- and keeps its parents
  step-again : (j : ℕ) → T (needed proof j)
      → renumbered (number_of short) (step_at short (number_of proof j)) ≡ step_at short (number_of proof j)
  step-again j t = ⊎_elim (λ s. renumbered-loaded (number_of short) step (is_true (is_loaded step) s)) resolved (split (is_loaded step))
    where
      i : ℕ
      i = number_of proof j

      step : List ℕ
      step = step_at short i

      resolved : T (not (is_loaded step)) → renumbered (number_of short) step ≡ step
      resolved s =
          let e = is_false (is_loaded step) s in
          let r : 1 ≤ how proof j = omega (arith, resolved-how short i e, how-same c j t) in
          let b = numbers-before j t r in
          let n = number-below c j t in
          let a = number_of proof (first_of proof j) in
          let d = number_of proof (second_of proof j) in
          let first : number_of short (field_at layout.step_first 2 step) ≡ a =
          ap (number_of short) (first-at short i) ∙ same_number (first_of short i) (omega (arith, trimmed-count c))
          ∙ first-number c j t r most in
          let second : number_of short (field_at layout.step_second 2 step) ≡ d =
          ap (number_of short) (second_at short i) ∙ same_number (second_of short i) (omega (arith, trimmed-count c))
          ∙ second-number c j t r most in
          renumbered-with (number_of short) step e ∙ (λ k. with_parents (first k) (second k) (resolved-with c j t r k))
          ∙ with-again a d a d (step_at proof j) (omega (arith, step-length c j t)) ∙ sym (resolved-with c j t r)

  pub trimmed-again : trimmed (trimmed proof) ≡ trimmed proof
  unfolding trimmed
  trimmed-again =
      kept-all short (needed short) (step_count short) (omega (arith, trimmed-trimmable.whole)) needed-again
      (each_number (λ i. renumbered (number_of short) (step_at short i) ≡ step_at short i) step-again)
      ∙ take_all (limit.step_bytes * step_count short) short (omega (arith, trimmed-trimmable.whole))
