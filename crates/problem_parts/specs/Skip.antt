-- Constraints that normalizing strikes out, passed over one by one.
use Rattle.std.proofs.Math.Path.{◌≡◌, refl, sym}
use Rattle.std.proofs.Common.{ap, ◌∙◌}
use Rattle.std.specs.Prelude.{Bool, List, ◌∷◌, pos}
use Rattle.std.proofs.Math.Bool.{true, false, not}
use Rattle.std.proofs.Math.Option.{none, some}
use Prim.Native.Nat.{ℕ, zero, suc, ◌+◌, ◌-◌, ◌<◌}
use native.Mathlib.Omega.{arith}
use Rattle.std.proofs.Math.Dec.{eqb}
use Rattle.rules_types.specs.Layout.{comparison_bytes}
use Rattle.rules.specs.Lists.{all}
use Rattle.rules.specs.Arithmetic.{is_zero, related}
use Rattle.rules.specs.Problem.{Constraint}
use Rattle.rules.specs.Normalize.{reduced, settled, settled_all}
use Rattle.problem_clauses.specs.declared.splits.Staying.TheVariants.{Dropped, Count}
use Rattle.problem_clauses.specs.Passes.{values-next}
use Rattle.problem_clauses.specs.Settled.{fate}
use Rattle.problem_clauses.specs.Remaining.{weight, counted}
use Rattle.problem_scan.specs.Values.{values_at, constraint_at, constraints_at}
use Rattle.problem_scan.specs.Sound.{Each, SoundComparison, each_first, each-rest}
use Rattle.problem_parts.specs.declared.skip.ConstraintsAt.{ConstraintsAt}

-- ---- whether a constraint stays
module _ (c : Constraint) where
  pub stays-is : eqb (weight (fate (settled c))) 1 ≡ not (all is_zero c.coefficients)
  unfolding settled fate
  stays-is = by (all is_zero c.coefficients) (related c.strict (pos 0) c.bound) refl refl
    where
      by : (z t : Bool) → all is_zero c.coefficients ≡ z → related c.strict (pos 0) c.bound ≡ t
          → eqb (weight (fate (settled c))) 1 ≡ not z
      by true true e i = rw (e, i, settled)
      by true false e i = rw (e, i, settled)
      by false t e i = rw (e, settled)

  -- the constraint put before those that stay
  pub kept-first : (cs : List Constraint) → all is_zero c.coefficients ≡ false
      → settled_all (c ∷ cs) ≡ elim (settled_all cs) [ none ↦ none | some ds ↦ some (reduced c ∷ ds) ]
  unfolding settled_all settled
  kept-first cs e = rw (e, settled, settled_all)

  -- one that is struck out, where the clause is not dropped
  pub struck-first : (cs : List Constraint) (n : ℕ) → all is_zero c.coefficients ≡ true → counted 0 (settled_all (c ∷ cs)) ≡ Count n
      → settled_all (c ∷ cs) ≡ settled_all cs
  unfolding settled_all settled counted
  struck-first cs n e = by (related c.strict (pos 0) c.bound) refl
    where
      by : (t : Bool) → related c.strict (pos 0) c.bound ≡ t → counted 0 (settled_all (c ∷ cs)) ≡ Count n
          → settled_all (c ∷ cs) ≡ settled_all cs
      by true i k =
          let d : settled_all (c ∷ cs) ≡ none = rw (e, i, settled, settled_all) in
          let f : Dropped ≡ Count n = sym (ap (counted 0) d) ∙ k in
          let z : ◌≡◌ {A = ℕ} 0 1 = cc in
          absurd (omega arith)
      by false i k = rw (e, i, settled, settled_all)

-- ---- the loop
pub record Skipping (q : List ℕ) (second : Bool) (r from count stay at left : ℕ) : Type 0 where
  pub each : Each (SoundComparison q r) (comparison_bytes r) left at
  pub same : settled_all (constraints_at q second r left at) ≡ settled_all (constraints_at q second r count from)
  pub stays : counted 0 (settled_all (constraints_at q second r left at)) ≡ Count stay

-- the first that stays, and those behind it
pub record Skipped (q : List ℕ) (second : Bool) (r from count : ℕ) (p : ConstraintsAt) : Type 0 where
  pub more : 0 < p.left
  pub each : Each (SoundComparison q r) (comparison_bytes r) p.left p.at
  pub same : settled_all (constraints_at q second r p.left p.at) ≡ settled_all (constraints_at q second r count from)
  pub stays : all is_zero (constraint_at q second r p.at).coefficients ≡ false

module _ (q : List ℕ) (second : Bool) (r from count stay at left : ℕ) (run : Skipping q second r from count stay at left)
    (some_stay : 0 < stay) where
  pub skipping-more : 0 < left
  unfolding counted settled_all values_at
  skipping-more = by left run.stays
    where
      by : (k : ℕ) → counted 0 (settled_all (constraints_at q second r k at)) ≡ Count stay → 0 < k
      by zero e = let z : 0 + 0 ≡ stay = cc in absurd (omega arith)
      by (suc k) e = omega arith

  pub skipping-sound : SoundComparison q r at
  skipping-sound = each_first (SoundComparison q r) (comparison_bytes r) left at skipping-more run.each

  pub skipping-next : all is_zero (constraint_at q second r at).coefficients ≡ true
      → Skipping q second r from count stay (at + comparison_bytes r) (left - 1)
  skipping-next z =
      let e = values-next (constraint_at q second r) (comparison_bytes r) at left skipping-more in
      let cs = constraints_at q second r (left - 1) (at + comparison_bytes r) in
      let k : counted 0 (settled_all (constraint_at q second r at ∷ cs)) ≡ Count stay =
      sym (ap (λ (ds : List Constraint). counted 0 (settled_all ds)) e) ∙ run.stays in
      let s = struck-first (constraint_at q second r at) cs stay z k in
      record {
        each = each-rest (SoundComparison q r) (comparison_bytes r) left at skipping-more run.each;
        same = sym s ∙ sym (ap settled_all e) ∙ run.same;
        stays = sym (ap (counted 0) s) ∙ k;
      }
