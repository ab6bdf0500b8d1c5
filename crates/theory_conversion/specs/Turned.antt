-- An amount with its sign turned: its four bytes mean the negative, fit as the amount's do, and are zero with it.
use Rattle.std.specs.Prelude.{◌≡◌, Bool, cond, ◌&&◌, ℕ, zero, suc, ℤ, pos, negsuc, neg_ℤ}
use Rattle.std.proofs.Math.Path.{refl}
use Rattle.std.proofs.Common.{ap, ◌∙◌, arith}
use Rattle.std.proofs.Math.Bool.{true, false}
use mathlib.Core.List.{List, [], ◌∷◌, ◌++◌, map}
use Rattle.rules.specs.Lists.{all}
use Rattle.rules.specs.Arithmetic.{is_zero}
use Rattle.rules.specs.Bytes.{from_unsigned}
use Rattle.rules.specs.Problem.{in_range}
use Rattle.rules.specs.Written.{amount_fields}
use Rattle.rules.specs.Convert.{turned, split_row}
use Rattle.theory_lists.specs.Tests.{is_true, of-true}
use Rattle.theory_lists.specs.All.{All}
use Rattle.theory_integers.specs.Size.{abs_neg}
use Rattle.theory_vectors.specs.Amounts.{Small, range_small}
use Rattle.theory_bytes.specs.Amounts.{to_unsigned-<, from_unsigned-to_unsigned, small-mag}
use Rattle.theory_conversion.specs.WrittenBack.{FitsAmount}

pub small-amount : (n : ℕ) → FitsAmount n → Small (from_unsigned n)
unfolding amount_fields
small-amount n h = (range_small (from_unsigned n)).0 (of-true (in_range (from_unsigned n)) h.0.1)

pub small-neg : (z : ℤ) → Small z → Small (neg_ℤ z)
small-neg z h = omega (arith, abs_neg z)

pub turned-means : (n : ℕ) → FitsAmount n → from_unsigned (turned n) ≡ neg_ℤ (from_unsigned n)
unfolding turned
turned-means n h =
    let z = from_unsigned n in from_unsigned-to_unsigned (neg_ℤ z) (small-mag (neg_ℤ z) (small-neg z (small-amount n h)))

pub turned-fits : (n : ℕ) → FitsAmount n → FitsAmount (turned n)
unfolding amount_fields turned
turned-fits n h =
    let z = from_unsigned n in
    let k = small-neg z (small-amount n h) in (
      (to_unsigned-< (neg_ℤ z) (small-mag (neg_ℤ z) k), rw (turned-means n h) (is_true (in_range (neg_ℤ z)) ((range_small (neg_ℤ z)).1 k))),
      tt,
    )

pub zero-neg : (z : ℤ) → is_zero (neg_ℤ z) ≡ is_zero z
unfolding is_zero
zero-neg (pos zero) = refl
zero-neg (pos (suc n)) = refl
zero-neg (negsuc n) = refl

-- ---- a row of them
module _ (keeps : ℕ → Bool) where
  pub row_fits : (f : ℕ) (ns : List ℕ) → All FitsAmount ns → All FitsAmount (split_row keeps f ns)
  unfolding split_row
  row_fits f [] h = tt
  row_fits f (n ∷ ns) h = by (keeps f) (row_fits (suc f) ns h.1)
    where
      by : (t : Bool) → All FitsAmount (split_row keeps (suc f) ns)
          → All FitsAmount (cond t (n ∷ []) (n ∷ turned n ∷ []) ++ split_row keeps (suc f) ns)
      by true k = (h.0, k)
      by false k = (h.0, (turned-fits n h.0, k))

  pub row_zero : (f : ℕ) (ns : List ℕ) → All FitsAmount ns
      → all is_zero (map from_unsigned (split_row keeps f ns)) ≡ all is_zero (map from_unsigned ns)
  unfolding split_row all
  row_zero f [] h = refl
  row_zero f (n ∷ ns) h = by (keeps f) (row_zero (suc f) ns h.1)
    where
      once : (a b : Bool) → a && (a && b) ≡ a && b
      once true b = refl
      once false b = refl

      by : (t : Bool) → all is_zero (map from_unsigned (split_row keeps (suc f) ns)) ≡ all is_zero (map from_unsigned ns)
          → all is_zero (map from_unsigned (cond t (n ∷ []) (n ∷ turned n ∷ []) ++ split_row keeps (suc f) ns))
          ≡ is_zero (from_unsigned n) && all is_zero (map from_unsigned ns)
      by true e = ap (λ (b : Bool). is_zero (from_unsigned n) && b) e
      by false e =
          (λ i. is_zero (from_unsigned n) && (is_zero (turned-means n h.0 i) && e i))
          ∙ (λ i. is_zero (from_unsigned n) && (zero-neg (from_unsigned n) i && all is_zero (map from_unsigned ns)))
          ∙ once (is_zero (from_unsigned n)) (all is_zero (map from_unsigned ns))
