-- The constraints that stay of those that stand at a place, one after another.
use Rattle.std.specs.Prelude.{◌≡◌, Bool, List, ◌∷◌, ℕ, ◌+◌, ◌-◌, ◌≤◌, ◌<◌}
use Rattle.std.proofs.Math.Path.{refl, sym, ap}
use Rattle.std.proofs.Common.{◌∙◌}
use Rattle.std.proofs.Math.Bool.{true, false}
use Rattle.std.proofs.Math.Option.{Option, none, some}
use native.Mathlib.Omega.{arith}
use Rattle.std.proofs.Math.ListN.{length}
use Rattle.rules_types.specs.Layout.{comparison_bytes}
use Rattle.rules.specs.Problem.{Constraint}
use Rattle.rules.specs.Normalize.{Settled, always, never, kept, settled, settled_all}
use Rattle.theory_lists.specs.Tests.{clash, of-true}
use Rattle.problem_clauses.specs.declared.splits.Fate.{Fate}
use Rattle.problem_clauses.specs.declared.splits.Fate.TheVariants.{Always, Never, Kept}
use Rattle.problem_clauses.specs.declared.splits.Staying.{Staying}
use Rattle.problem_clauses.specs.declared.splits.Staying.TheVariants.{Dropped, Count}
use Rattle.problem_scan.specs.Values.{values_at, behind, behind-is, constraint_at, constraints_at}
use Rattle.problem_clauses.specs.Passes.{values-next, behind-next}
use Rattle.problem_clauses.specs.Settled.{fate}

abbrev pub is_always : Fate → Bool
is_always Always = true
is_always Never = false
is_always Kept = false

-- how many it counts as
abbrev pub weight : Fate → ℕ
weight Always = 0
weight Never = 0
weight Kept = 1

pub weight-≤ : (f : Fate) → weight f ≤ 1
weight-≤ Always = omega arith
weight-≤ Never = omega arith
weight-≤ Kept = omega arith

-- dropped, or n before them and those that stay
unfoldable pub counted : ℕ → Option (List Constraint) → Staying
counted n none = Dropped
counted n (some cs) = Count (n + length cs)

module _ (n : ℕ) (c : Constraint) (cs : List Constraint) where
  drop-by : (s : Settled) → settled c ≡ s → is_always (fate s) ≡ true → counted n (settled_all (c ∷ cs)) ≡ Dropped
  unfolding settled_all fate counted
  drop-by always e f = rw (e, settled_all)
  drop-by never e f = absurd (clash false (of-true false f) tt)
  drop-by (kept d) e f = absurd (clash false (of-true false f) tt)

pub record Keeping (q : List ℕ) (second : Bool) (r from count at left n : ℕ) : Type 0 where
  pub end : behind (comparison_bytes r) left at ≡ behind (comparison_bytes r) count from
  pub few : n + left ≤ count
  pub same : counted n (settled_all (constraints_at q second r left at))
      ≡ counted 0 (settled_all (constraints_at q second r count from))

module _ {q : List ℕ} {second : Bool} {r from count at left n : ℕ} (run : Keeping q second r from count at left n) where
  pub keeping-done : left ≤ 0 → Count n ≡ counted 0 (settled_all (constraints_at q second r count from))
  unfolding counted settled_all values_at
  keeping-done h =
      let e : left ≡ 0 = omega arith in
      let z : n ≡ n + 0 = omega arith in
      ap Count z ∙ sym (ap (λ (i : ℕ). counted n (settled_all (constraints_at q second r i at))) e) ∙ run.same

  module _ (more : 0 < left) where
    pub keeping-within : at + comparison_bytes r ≤ behind (comparison_bytes r) count from
    keeping-within = within_by (comparison_bytes r) (left - 1) (at + comparison_bytes r)
        (sym (behind-next (comparison_bytes r) at left more) ∙ run.end)
      where
        within_by : (size k i : ℕ) → behind size k i ≡ behind (comparison_bytes r) count from → i ≤ behind (comparison_bytes r) count from
        within_by size k i e = omega (arith, e, behind-is size k i)

    module _ (f : Fate) (given : f ≡ fate (settled (constraint_at q second r at))) where
      pub keeping-drop : is_always f ≡ true → Dropped ≡ counted 0 (settled_all (constraints_at q second r count from))
      keeping-drop e =
          sym (drop-by n (constraint_at q second r at) (constraints_at q second r (left - 1) (at + comparison_bytes r))
          (settled (constraint_at q second r at)) refl (ap is_always (sym given) ∙ e))
          ∙ ap (λ (cs : List Constraint). counted n (settled_all cs))
          (sym (values-next (constraint_at q second r) (comparison_bytes r) at left more))
          ∙ run.same
