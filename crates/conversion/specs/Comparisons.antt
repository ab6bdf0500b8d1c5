-- The bytes of comparisons with their variables split, by their places in the problem.
use Rattle.std.specs.Prelude.{◌≡◌, Bool, List, ◌∷◌, ◌++◌, ℕ, ◌+◌, ◌-◌, ◌≤◌, ◌<◌, get_or, set}
use Rattle.std.proofs.Math.Path.{ap}
use native.Mathlib.Omega.{arith}
use Rattle.std.proofs.Math.ListN.{length, length-append, length-set}
use Rattle.rules_types.specs.Layout as layout
use Rattle.rules.specs.Bytes.{to_bytes, field_at}
use Rattle.theory_bytes.specs.Bytes.{length-to_bytes}
use Rattle.problem_scan.specs.Values.{behind, behind-is}
use Rattle.problem_clauses.specs.Passes.{behind-next}
use Rattle.fields.specs.Field.{stored, length-stored}
use Rattle.conversion.specs.Writing.{Wrote, wrote-++, wrote-word, wrote-byte, parts_from, Places}
use Rattle.conversion.specs.Row.{row_at}

module _ (keeps : ℕ → Bool) (q : List ℕ) (r : ℕ) where
  -- the bound's bytes
  abbrev bound_at : ℕ → List ℕ
  bound_at at = to_bytes 4 (field_at (at + layout.comparison_bound r) 4 q)

  unfoldable pub split_comparison_at : ℕ → List ℕ
  split_comparison_at at = get_or q at 0 ∷ (row_at keeps q 0 r (at + layout.comparison_coefficients) ++ bound_at at)

  -- so many of them, one behind another
  abbrev pub split_comparisons_at : ℕ → ℕ → List ℕ
  split_comparisons_at count from = parts_from split_comparison_at (λ at. at + layout.comparison_bytes r) count from

  -- ---- one comparison: relation, row, bound
  module _ (old : List ℕ) (to at : ℕ) (fits : to + length (split_comparison_at at) ≤ length old) where
    row : List ℕ
    row = row_at keeps q 0 r (at + layout.comparison_coefficients)

    sizes : length (split_comparison_at at) ≡ 5 + length row
    unfolding split_comparison_at row
    sizes = omega (arith, length-append row (bound_at at), length-to_bytes 4 (field_at (at + layout.comparison_bound r) 4 q))

    pub relation-fits : to < length old
    relation-fits = omega (arith, sizes)

    pub row_fits : {mid : List ℕ} → mid ≡ set old to (get_or q at 0)
        → to + 1 + length (row_at keeps q 0 r (at + layout.comparison_coefficients)) ≤ length mid
    unfolding row
    row_fits e = omega (arith, sizes, ap length e, length-set old to (get_or q at 0))

    module _ {first : List ℕ} (relation : first ≡ set old to (get_or q at 0)) {mid : List ℕ} {place : ℕ}
        (wrote : Wrote first (to + 1) (row_at keeps q 0 r (at + layout.comparison_coefficients)) mid place) where
      pub bound-fits : place + 4 ≤ length mid
      unfolding row
      bound-fits =
          omega (
            arith,
            sizes,
            wrote.behind,
            ap length wrote.same,
            length-stored (to + 1) row first (row_fits relation),
            ap length relation,
            length-set old to (get_or q at 0),
          )

      pub wrote-comparison : {new : List ℕ} (n : ℕ) → n ≡ field_at (at + layout.comparison_bound r) 4 q
          → new ≡ stored place (to_bytes 4 n) mid → Wrote old to (split_comparison_at at) new (place + 4)
      unfolding split_comparison_at row
      wrote-comparison n b e =
          wrote-++ (omega (arith, relation-fits)) (wrote-byte to (get_or q at 0) relation-fits relation)
          (wrote-++ (omega (arith, row_fits relation)) wrote (rw b at (wrote-word place n e)))

-- where several end
pub comparison-places : (r : ℕ) → Places (λ at. at + layout.comparison_bytes r) (behind (layout.comparison_bytes r))
comparison-places r = record {
  later = λ k at h. behind-next (layout.comparison_bytes r) at k h;
  reach = λ k at h. omega (
    arith,
    behind-next (layout.comparison_bytes r) at k h,
    behind-is (layout.comparison_bytes r) (k - 1) (at + layout.comparison_bytes r),
  );
}
