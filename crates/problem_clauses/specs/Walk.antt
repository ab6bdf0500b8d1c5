-- A clause's places by sums.
use Rattle.std.specs.Prelude.{◌≡◌, refl, List, ℕ, ◌+◌, ◌*◌, ◌≤◌, ◌<◌, length}
use Rattle.std.proofs.Common.{sym, ◌∙◌, arith}
use Rattle.std.proofs.Math.Path.{ap}
use Rattle.std.proofs.Math.ListN.{get_or}
use Rattle.rules_types.specs.Layout.{comparison_bytes}
use Rattle.problem_scan.specs.Values.{behind, behind-is, count_of, clause_end}

module _ (q : List ℕ) where
  pub count_of-is : (at : ℕ) → count_of q at ≡ at + 1 + get_or q at 0
  unfolding count_of
  count_of-is at = omega (arith, behind-is 1 (get_or q at 0) (at + 1))

  pub clause_end-is : (r at place : ℕ) → place ≡ count_of q at → clause_end q r at ≡ place + 1 + get_or q place 0 * comparison_bytes r
  unfolding clause_end
  clause_end-is r at place e = behind-is (comparison_bytes r) (get_or q (count_of q at) 0) (count_of q at + 1)
      ∙ ap (λ (p : ℕ). p + 1 + get_or q p 0 * comparison_bytes r) (sym e)

  -- of a clause that ends in the slice: its first byte and its count of comparisons are there
  module _ (r at : ℕ) (within : clause_end q r at ≤ length q) where
    pub count-within : count_of q at < length q
    count-within = omega (arith, clause_end-is r at (count_of q at) refl, within)

    pub clause-within : at + 1 < length q
    clause-within = omega (arith, count_of-is at, count-within)

    -- its literals end in the slice, and its comparisons do
    pub literals-within : behind 1 (get_or q at 0) (at + 1) ≤ length q
    unfolding count_of
    literals-within = omega (arith, count-within)

    pub constraints-within : (place : ℕ) → place ≡ count_of q at → behind (comparison_bytes r) (get_or q place 0) (place + 1) ≤ length q
    constraints-within place e =
        omega (arith, behind-is (comparison_bytes r) (get_or q place 0) (place + 1), clause_end-is r at place e, within)

  pub clause-≤ : (r at : ℕ) → at ≤ clause_end q r at
  clause-≤ r at = omega (arith, count_of-is at, clause_end-is r at (count_of q at) refl)
