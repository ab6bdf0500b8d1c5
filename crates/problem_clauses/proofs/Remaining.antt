-- What a constraint that stays, or is struck out, adds to the count.
use Rattle.std.specs.Prelude.{◌≡◌, Bool, List, ◌∷◌, ℕ, ◌+◌, ◌-◌, ◌<◌}
use Rattle.std.proofs.Math.Path.{refl, sym, ap}
use Rattle.std.proofs.Common.{◌∙◌}
use Rattle.std.proofs.Math.Bool.{true, false}
use Rattle.std.proofs.Math.Option.{Option, none, some}
use native.Mathlib.Omega.{arith}
use Rattle.std.proofs.Math.ListN.{length}
use Rattle.rules_types.specs.Layout.{comparison_bytes}
use Rattle.rules.specs.Problem.{Constraint}
use Rattle.rules.specs.Normalize.{Settled, always, never, kept, settled, settled_all}
use Rattle.theory_lists.specs.Tests.{clash, of-false}
use Rattle.problem_clauses.specs.declared.splits.Fate.{Fate}
use Rattle.problem_clauses.specs.declared.splits.Staying.TheVariants.{Count}
use Rattle.problem_scan.specs.Values.{constraint_at, constraints_at}
use Rattle.problem_clauses.specs.Passes.{values-next, behind-next}
use Rattle.problem_clauses.specs.Settled.{fate}
use Rattle.problem_clauses.specs.Remaining.{is_always, weight, weight-≤, counted, Keeping}

module _ (n : ℕ) (c : Constraint) (cs : List Constraint) where
  with-kept : (d : Constraint) (o : Option (List Constraint))
      → counted n (elim o [ none ↦ none | some ds ↦ some (d ∷ ds) ]) ≡ counted (n + 1) o
  unfolding counted
  with-kept d none = refl
  with-kept d (some ds) = let e : n + length (d ∷ ds) ≡ n + 1 + length ds = omega arith in ap Count e

  count_by : (s : Settled) → settled c ≡ s → is_always (fate s) ≡ false
      → counted n (settled_all (c ∷ cs)) ≡ counted (n + weight (fate s)) (settled_all cs)
  unfolding settled_all fate
  count_by always e f = absurd (clash true tt (of-false true f))
  count_by never e f = let z : n + 0 ≡ n = omega arith in rw (e, settled_all) (ap (λ (i : ℕ). counted i (settled_all cs)) (sym z))
  count_by (kept d) e f = rw (e, settled_all) (with-kept d (settled_all cs))

module _ {q : List ℕ} {second : Bool} {r from count at left n : ℕ} (run : Keeping q second r from count at left n) where
  module _ (more : 0 < left) where
    module _ (f : Fate) (given : f ≡ fate (settled (constraint_at q second r at))) where
      pub keeping-next : is_always f ≡ false → Keeping q second r from count (at + comparison_bytes r) (left - 1) (n + weight f)
      keeping-next e =
          record {
            end = sym (behind-next (comparison_bytes r) at left more) ∙ run.end;
            few = omega (arith, weight-≤ f, run.few);
            same =
                ap (λ (g : Fate). counted (n + weight g)
                (settled_all (constraints_at q second r (left - 1) (at + comparison_bytes r)))) given
                ∙ sym (count_by n (constraint_at q second r at) (constraints_at q second r (left - 1) (at + comparison_bytes r))
                (settled (constraint_at q second r at)) refl (ap is_always (sym given) ∙ e))
                ∙ ap (λ (cs : List Constraint). counted n (settled_all cs))
                (sym (values-next (constraint_at q second r) (comparison_bytes r) at left more))
                ∙ run.same;
          }
