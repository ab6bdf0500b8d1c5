-- The trimmed proof is the short proof that the statements speak of.
use Rattle.std.specs.Prelude.{◌≡◌, List, ℕ, ◌-◌, ◌≤◌, ◌<◌, T}
use Rattle.std.proofs.Common.{sym, ap, ◌∙◌, subst, arith}
use Rattle.rules_types.specs.declared.limits.Limits.{Limits}
use Rattle.rules_types.specs.Limits as limit
use Rattle.rules_types.specs.Layout as layout
use Rattle.rules.specs.Bytes.{field_at}
use Rattle.rules.specs.Trim.{step_count, needed, trimmed}
use Rattle.theory_trimming.specs.Statements.{how, first_of, second_of, Parent, Descends, SameStep, ShortProof}
use Rattle.theory_trimming.specs.Ordered.{Trimmable}
use Rattle.theory_trimming.specs.Count.{old, old-at, old-count, old-rises}
use Rattle.theory_trimming.specs.StepFields.{field-at, first-at, second_at}
use Rattle.theory_trimming.specs.Needed.{needed-last, needed-below, needed-parent, needed-exactly}
use Rattle.theory_trimming.specs.Trimmed.{number_of, short_count, trimmed-length, number-below, others_same, loaded-same, last-number}
use Rattle.theory_trimming.specs.Trimmed.{first-parent, second-parent, parents-below, first-number, second-number}

-- the step that gets number i
abbrev pub old_of : List ℕ → ℕ → ℕ
old_of proof = old (needed proof) (step_count proof)

module _ {limits : Limits} {proof : List ℕ} (c : Trimmable limits proof) (most : limits.steps ≤ limit.most_steps) where
  pub old-of : (j : ℕ) → T (needed proof j) → old_of proof (number_of proof j) ≡ j
  old-of j t = old-count (needed proof) (step_count proof) j t (needed-below c j t)

  -- step j gets number i
  module _ (j : ℕ) (t : T (needed proof j)) where
    abbrev i : ℕ
    i = number_of proof j

    loaded-step : how proof j ≡ 0 → (first_of (trimmed proof) i ≡ first_of proof j) × (second_of (trimmed proof) i ≡ second_of proof j)
    loaded-step h =
        let e = loaded-same c j t h in (
          sym (first-at (trimmed proof) i) ∙ ap (field_at layout.step_first 2) e ∙ first-at proof j,
          sym (second_at (trimmed proof) i) ∙ ap (field_at layout.step_second 2) e ∙ second_at proof j,
        )

    parent-number : (a b : ℕ) → 1 ≤ how proof j → Parent proof j b → a ≡ number_of proof b → (a < i) × (old_of proof a ≡ b)
    parent-number a b r p e = (
      omega (arith, e, (parents-below c j t r b p).1),
      ap (old_of proof) e ∙ old-of b (needed-parent c j b t p),
    )

    resolved_step : 1 ≤ how proof j
        → (first_of (trimmed proof) i < i) × (old_of proof (first_of (trimmed proof) i) ≡ first_of proof j)
        × (second_of (trimmed proof) i < i) × (old_of proof (second_of (trimmed proof) i) ≡ second_of proof j)
    resolved_step r =
        let f = parent-number (first_of (trimmed proof) i) (first_of proof j) r (first-parent c j t r) (first-number c j t r most) in
        let s = parent-number (second_of (trimmed proof) i) (second_of proof j) r (second-parent c j t r) (second-number c j t r most) in
        (f.0, f.1, s.0, s.1)

    same_step : SameStep proof (trimmed proof) (old_of proof) i
    same_step = record {
      others = λ place l o. rw (old-of j t)
          (sym (field-at (trimmed proof) i place 1 (omega arith)) ∙ others_same c j t place l o ∙ field-at proof j place 1 (omega arith));
      loaded = rw (old-of j t) loaded-step;
      resolved = rw (old-of j t) resolved_step;
    }

  pub trimmed-short : ShortProof proof (step_count proof) (trimmed proof) (short_count proof)
  trimmed-short = record {
    size = trimmed-length c;
    old = old_of proof;
    rising = old-rises (needed proof) (step_count proof);
    last = let e : short_count proof - 1 ≡ number_of proof (step_count proof - 1) = omega (arith, last-number c) in
        ap (old_of proof) e ∙ old-of (step_count proof - 1) (needed-last c);
    exactly = λ j. (
      λ d. let t = (needed-exactly c j).1 d in (number_of proof j, number-below c j t, old-of j t),
      λ h. let r = old-at (needed proof) (step_count proof) h.0 h.1 in
          subst (Descends proof (step_count proof - 1)) h.2 ((needed-exactly c (old_of proof h.0)).0 r.kept),
    );
    steps = λ i h. let r = old-at (needed proof) (step_count proof) i h in
        subst (SameStep proof (trimmed proof) (old_of proof)) r.number (same_step (old_of proof i) r.kept);
  }
