-- Sums of coefficient × numerator, from a term on, and their widths.
use Rattle.std.specs.Prelude.{◌≡◌, List, ℤ, pos, nat_abs, ◌+ℤ◌, ◌*ℤ◌, length, drop}
use Rattle.std.proofs.Math.Path.{ap}
use Prim.Native.Nat.{ℕ, suc, ◌+◌, ◌*◌, ◌≤◌, ◌<◌}
use native.Mathlib.Omega.{arith}
use Rattle.std.proofs.Math.ListN.{get_or}
use Rattle.std.proofs.Common.{drop-cons}
use Rattle.std.proofs.Math.Seq.{drop-length}
use Rattle.theory_integers.specs.Size.{abs-+-≤}
use Rattle.rules.specs.Arithmetic.{sum}
use Rattle.theory_vectors.specs.Dot.{sum-values}
use Rattle.theory_vectors.specs.Amounts.{Amounts}
use Rattle.rows.specs.Products.{product-≤}
use Rattle.models.specs.Model.{value}

-- the terms from place i on
unfoldable pub terms_from : List ℤ → List ℤ → ℕ → ℤ
terms_from row numerators i = sum (drop i row) (λ f. value numerators (i + f))

module _ (row numerators : List ℤ) where
  pub terms-none : (n : ℕ) → length row ≡ n → pos 0 ≡ terms_from row numerators n
  unfolding terms_from sum
  terms-none n h = rw (← h, drop-length row)

  pub terms-all : terms_from row numerators 0 ≡ sum row (value numerators)
  unfolding terms_from
  terms-all = sum-values row (λ f. ap (value numerators) (zero-plus f))
    where
      zero-plus : (f : ℕ) → 0 + f ≡ f
      zero-plus f = omega arith

  module _ (i : ℕ) (h : i < length row) where
    pub terms-more : terms_from row numerators i ≡ get_or row i (pos 0) *ℤ value numerators i +ℤ terms_from row numerators (suc i)
    unfolding terms_from sum
    terms-more =
        let e : i + 0 ≡ i = omega arith in
        rw (drop-cons row i (pos 0), e) (ap (λ (s : ℤ). get_or row i (pos 0) *ℤ value numerators i +ℤ s)
        (sum-values (drop (suc i) row) (λ f. ap (value numerators) (shift f))))
      where
        shift : (f : ℕ) → i + suc f ≡ suc i + f
        shift f = omega arith

    -- a term is at most 10^18 in size
    pub terms-≤ : (k : ℕ) → Amounts row → Amounts numerators → nat_abs (terms_from row numerators (suc i)) ≤ k * 1000000000000000000
        → nat_abs (terms_from row numerators i) ≤ suc k * 1000000000000000000
    unfolding value
    terms-≤ k a b t =
        rw terms-more
        (omega (
          arith,
          abs-+-≤ (get_or row i (pos 0) *ℤ value numerators i) (terms_from row numerators (suc i))
              (product-≤ (get_or row i (pos 0)) (value numerators i) (a.small i) (b.small i)) t,
        ))
