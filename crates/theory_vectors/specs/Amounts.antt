-- Amounts in their range: normalizing keeps them there, and the rules' test that a line overflows decides it.
use Rattle.std.specs.Prelude.{Bool, not, ◌↔◌, List, [], ◌∷◌, ℕ, zero, suc, ◌≤◌, ℤ, pos, nat_abs, T, get_or, replicate, set}
use Rattle.std.proofs.Math.Option.{Option, none, some}
use Rattle.std.proofs.Common.{arith, leb→le, le→leb}
use Rattle.std.specs.Int.Signed.{quot_z}
use Rattle.std.proofs.Math.Facts.{not_T, T_not-not}
use Rattle.rules_types.specs.Limits as limit
use Rattle.rules.specs.Lists.{any}
use Rattle.rules.specs.Arithmetic.{gcd_all}
use Rattle.rules.specs.Problem.{Constraint, in_range}
use Rattle.rules.specs.Lines.{Line}
use Rattle.rules.specs.Normalize.{reduced}
use Rattle.rules.specs.Steps.{row}
use Rattle.rules.specs.Elimination.{overflows}
use Rattle.theory_lists.specs.Tests.{clash}
use Rattle.theory_lists.specs.All.{All, all_map, all-mapped, all_append, append-all, all_any, any-yes, any-no}
use Rattle.theory_integers.specs.Quotient.{abs-quot-≤}

abbrev pub Small : ℤ → Type 0
Small z = nat_abs z ≤ limit.amount

-- those of a constraint, where there is one
abbrev pub SmallAmounts : Option Constraint → Type 0
SmallAmounts none = Unit {0}
SmallAmounts (some c) = All Small c.coefficients × Small c.bound

pub range_small : (z : ℤ) → T (in_range z) ↔ Small z
unfolding in_range
range_small z = (leb→le (nat_abs z) limit.amount, le→leb (nat_abs z) limit.amount)

pub zeros-small : (n : ℕ) → All Small (replicate n (pos 0))
zeros-small zero = tt
zeros-small (suc n) = (omega arith, zeros-small n)

-- none is out of range
pub narrow-small : (zs : List ℤ) → T (not (any (λ z. not (in_range z)) zs)) → All Small zs
narrow-small zs h = all_map (λ z. T (not (not (in_range z)))) Small zs (λ z t. (range_small z).0 (T_not-not (in_range z) t))
    (any-no (λ z. not (in_range z)) zs h)

-- ---- by number; one that is not there counts as 0
pub record Amounts (zs : List ℤ) : Type 0 where
  pub small : (i : ℕ) → Small (get_or zs i (pos 0))

pub amounts-small : (zs : List ℤ) → Amounts zs → All Small zs
amounts-small [] h = tt
amounts-small (z ∷ zs) h = (h.small 0, amounts-small zs (record { small = λ i. h.small (suc i) }))

pub small-amounts : (zs : List ℤ) → All Small zs → Amounts zs
small-amounts zs h = record { small = at zs h }
  where
    at : (zs : List ℤ) → All Small zs → (i : ℕ) → Small (get_or zs i (pos 0))
    at [] h i = omega arith
    at (z ∷ zs) h zero = h.0
    at (z ∷ zs) h (suc i) = at zs h.1 i

pub zeros-amounts : (n : ℕ) → Amounts (replicate n (pos 0))
zeros-amounts n = small-amounts (replicate n (pos 0)) (zeros-small n)

-- one amount for another
pub amounts-set : (zs : List ℤ) (f : ℕ) (z : ℤ) → Amounts zs → Small z → Amounts (set zs f z)
amounts-set zs f z h k = record { small = other zs f h.small }
  where
    other : (zs : List ℤ) (f : ℕ) → ((i : ℕ) → Small (get_or zs i (pos 0))) → (i : ℕ) → Small (get_or (set zs f z) i (pos 0))
    other [] f h i = h i
    other (c ∷ zs) zero h zero = k
    other (c ∷ zs) zero h (suc i) = h (suc i)
    other (c ∷ zs) (suc f) h zero = h zero
    other (c ∷ zs) (suc f) h (suc i) = other zs f (λ j. h (suc j)) i

-- ---- divided by the common divisor
quot-small : (g : ℕ) (z : ℤ) → Small z → Small (quot_z z (pos g))
quot-small g z h = omega (arith, abs-quot-≤ g z)

pub reduced-small : (c : Constraint) → SmallAmounts (some c) → SmallAmounts (some (reduced c))
unfolding reduced
reduced-small c h =
    let g = gcd_all (c.bound ∷ c.coefficients) in (
      all-mapped Small (λ z. quot_z z (pos g)) c.coefficients
          (all_map Small (λ z. Small (quot_z z (pos g))) c.coefficients (quot-small g) h.0),
      quot-small g c.bound h.1,
    )

-- ---- a line's coefficients and bound in a row
pub row_small : (k : Option Constraint) → SmallAmounts k ↔ All Small (row k)
unfolding row
row_small none = (λ h. zeros-small 9, λ h. tt)
row_small (some c) = (
  λ h. all_append Small c.coefficients (c.bound ∷ []) h.0 (h.1, tt),
  λ h. let r = append-all Small c.coefficients (c.bound ∷ []) h in (r.0, r.1.0),
)

pub overflows-no : (l : Line) → T (not (overflows l)) ↔ SmallAmounts l.constraint
unfolding overflows
overflows-no l = (
  λ h. (row_small l.constraint).1 (narrow-small r h),
  λ h. not_T (any beyond r) (λ t. all_any Small (λ z. T (beyond z)) r (λ z a b. clash (in_range z) ((range_small z).1 a) b)
      ((row_small l.constraint).0 h) (any-yes beyond r t)),
)
  where
    r : List ℤ
    r = row l.constraint

    beyond : ℤ → Bool
    beyond z = not (in_range z)
