-- Sums of coefficient × numerator over bytes, from the front; and the comparison that they decide.
use Rattle.std.specs.Prelude.{◌≡◌, refl, ℤ, pos, nat_abs, ◌+ℤ◌, ◌*ℤ◌, get_or, replicate}
use Rattle.std.proofs.Math.Path.{sym, ap}
use Rattle.std.proofs.Common.{◌∙◌}
use mathlib.Core.List.{List, [], ◌∷◌, ◌++◌}
use Prim.Native.Nat.{ℕ, zero, suc, ◌+◌, ◌*◌, ◌-◌, ◌≤◌, ◌<◌}
use native.Mathlib.Omega.{arith}
use Rattle.rules_types.specs.Limits as limit
use Rattle.rules_types.specs.Layout as layout
use Rattle.theory_integers.specs.Ring.{+-identityʳ, +-identityˡ, +_assoc}
use Rattle.theory_integers.specs.Size.{abs-+-≤}
use Rattle.rules.specs.Arithmetic.{sum}
use Rattle.rules.specs.Problem.{relation_of}
use Rattle.rules.specs.Meaning.{compared, comparison_holds}
use Rattle.theory_vectors.specs.Amounts.{Small}
use Rattle.theory_vectors.specs.Dot.{sum-values, sum-coefficients}
use Rattle.rows.specs.Products.{product-≤}
use Rattle.problem_scan.specs.Values.{values_at, amount_at, comparison_at}
use Rattle.problem_scan.specs.Sound.{Amount}
use Rattle.problem_clauses.specs.Passes.{values-next}
use Rattle.models.specs.declared.model.Model.{Model}
use Rattle.models.specs.Model.{value, assignment}

-- ---- zeros behind the coefficients add 0
pub sum-padded : (cs : List ℤ) (n : ℕ) (x : ℕ → ℤ) → sum (cs ++ replicate n (pos 0)) x ≡ sum cs x
sum-padded cs n x = sum-coefficients (cs ++ replicate n (pos 0)) cs x (same cs n)
  where
    same : (cs : List ℤ) (n i : ℕ) → get_or (cs ++ replicate n (pos 0)) i (pos 0) ≡ get_or cs i (pos 0)
    same [] zero i = refl
    same [] (suc n) zero = refl
    same [] (suc n) (suc i) = same [] n i
    same (c ∷ cs) n zero = refl
    same (c ∷ cs) n (suc i) = same cs n i

-- ---- the loop: the sum so far, and that of what is left with the numerators from i on
pub record Summing (q : List ℕ) (numerators : List ℤ) (from count i : ℕ) (total : ℤ) : Type 0 where
  pub small : nat_abs total ≤ i * 1000000000000000000
  pub same : total +ℤ sum (values_at (amount_at q) 4 (count - i) (from + i * 4)) (λ f. value numerators (i + f))
      ≡ sum (values_at (amount_at q) 4 count from) (value numerators)

pub summing_start : (q : List ℕ) (numerators : List ℤ) (from count : ℕ) → Summing q numerators from count 0 (pos 0)
summing_start q numerators from count =
    let z : from + 0 * 4 ≡ from = omega arith in
    let n : count - 0 ≡ count = omega arith in
    record {
      small = omega arith;
      same = rw n (+-identityˡ (sum (values_at (amount_at q) 4 count (from + 0 * 4)) (λ f. value numerators (0 + f)))
          ∙ ap (λ (at : ℕ). sum (values_at (amount_at q) 4 count at) (λ f. value numerators (0 + f))) z
          ∙ sum-values (values_at (amount_at q) 4 count from) (λ f. ap (value numerators) (zero-plus f)));
    }
  where
    zero-plus : (f : ℕ) → 0 + f ≡ f
    zero-plus f = omega arith

module _ (q : List ℕ) (numerators : List ℤ) (from count i : ℕ) (total : ℤ) (run : Summing q numerators from count i total) where
  pub summing-done : count ≤ i → total ≡ sum (values_at (amount_at q) 4 count from) (value numerators)
  unfolding sum values_at
  summing-done h =
      let e : count - i ≡ 0 = omega arith in
      sym (+-identityʳ total)
      ∙ sym (ap (λ (k : ℕ). total +ℤ sum (values_at (amount_at q) 4 k (from + i * 4)) (λ f. value numerators (i + f))) e) ∙ run.same

  pub summing-next : i < count → Amount q (from + i * 4) → Small (value numerators i)
      → Summing q numerators from count (i + 1) (total +ℤ amount_at q (from + i * 4) *ℤ value numerators i)
  unfolding sum
  summing-next more a h =
      let at = from + i * 4 in
      let p : from + (i + 1) * 4 ≡ at + 4 = omega arith in
      let n : count - (i + 1) ≡ count - i - 1 = omega arith in
      let rest = values_at (amount_at q) 4 (count - i - 1) (at + 4) in
      let z = amount_at q at in
      record {
        small = omega (arith, abs-+-≤ total (z *ℤ value numerators i) run.small (product-≤ z (value numerators i) a h));
        same = rw (p, n) (
            +_assoc total (z *ℤ value numerators i) (sum rest (λ f. value numerators (i + 1 + f)))
            ∙ ap (λ (s : ℤ). total +ℤ s) (first rest z)
            ∙ ap (λ (zs : List ℤ). total +ℤ sum zs (λ f. value numerators (i + f)))
            (sym (values-next (amount_at q) 4 at (count - i) (omega arith)))
            ∙ run.same);
      }
    where
      shift : (f : ℕ) → i + 1 + f ≡ i + suc f
      shift f = omega arith

      first : (rest : List ℤ) (z : ℤ)
          → z *ℤ value numerators i +ℤ sum rest (λ f. value numerators (i + 1 + f)) ≡ sum (z ∷ rest) (λ f. value numerators (i + f))
      first rest z =
          let e : i ≡ i + 0 = omega arith in
          ap (λ (s : ℤ). z *ℤ value numerators i +ℤ s) (sum-values rest (λ f. ap (value numerators) (shift f)))
          ∙ ap (λ (k : ℕ). z *ℤ value numerators k +ℤ sum rest (λ f. value numerators (i + suc f))) e

-- ---- a comparison, by its sum and its bound × denominator
module _ (q : List ℕ) (r at : ℕ) (m : Model) (s z b : ℤ)
    (summed : s ≡ sum (values_at (amount_at q) 4 r (at + layout.comparison_coefficients)) (value m.numerators))
    (read : z ≡ (comparison_at q r at).bound) (scaled : b ≡ z *ℤ pos m.denominator) where
  pub holds-is : compared (relation_of (get_or q at 0)) s b ≡ comparison_holds (assignment m) (comparison_at q r at)
  unfolding comparison_holds comparison_at assignment
  holds-is =
      let cs = values_at (amount_at q) 4 r (at + layout.comparison_coefficients) in
      let padded = sum-padded cs (limit.rationals - r) (value m.numerators) in
      rw (← read, padded, summed, scaled)
