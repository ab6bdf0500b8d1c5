-- Assignments in machine words, with one variable more, and which of them are too large.
use Rattle.std.specs.Prelude.{◌≡◌, refl, Bool, true, false, not, ◌||◌, List, [], ◌∷◌, ℤ, pos, nat_abs, ◌+ℤ◌, ◌*ℤ◌, leb, ltb, length, set}
use Rattle.std.specs.Prelude.{replicate}
use Rattle.std.proofs.Common.{sym, ap, ◌∙◌, arith, ltb→lt, take_all}
use Rattle.std.proofs.Math.Bool.{or-true}
use Prim.Native.Nat.{ℕ, zero, suc, ◌/◌, ◌≤◌, ◌<◌}
use Rattle.std.proofs.Math.ListN.{get_or}
use borrow.Author.Tests.{le-ltb, lt-ltb, lt-leb, leb-false}
use Rattle.rules_types.specs.Limits as limit
use Rattle.rules_types.specs.Limits.{amount}
use Rattle.theory_integers.specs.Ring.{*-comm, *-zeroʳ, +-identityˡ, +-identityʳ}
use Rattle.rules.specs.Lists.{any, tabulate, put}
use Rattle.rules.specs.Problem.{in_range}
use Rattle.rules.specs.Arithmetic.{lcm, combine}
use Rattle.rules.specs.Meaning.{Assignment}
use Rattle.rules.specs.Values.{Fraction, with_rational, with_boolean}
use Rattle.rules.specs.Model.{too_large}
use Rattle.theory_lists.specs.Tests.{of-true, of-false, is_false, tests_agree}
use Rattle.theory_lists.specs.All.{every, any-agree, get_or-replicate-same}
use Rattle.theory_lists.specs.Tabulated.{tabulate-take, none-tabulate}
use Rattle.theory_vectors.specs.Dot.{get_or-combine}
use Rattle.masks.specs.Mask.{bits, length-bits}
use Rattle.theory_vectors.specs.Amounts.{Amounts, narrow-small, small-amounts}
use Rattle.models.specs.declared.model.Model.{Model}
use Rattle.models.specs.Model.{value, assignment}
use Rattle.values.specs.Range.{InRange}
use Rattle.walk.specs.Reached.{Same}

-- an element put in, by the list
get_or-put : {A : Type 0} (s : List A) (i : ℕ) (a d : A) → i < length s → (j : ℕ) → get_or (set s i a) j d ≡ put i a (λ k. get_or s k d) j
unfolding put
get_or-put [] i a d h j = absurd (omega arith)
get_or-put (b ∷ s) zero a d h zero = refl
get_or-put (b ∷ s) zero a d h (suc j) = refl
get_or-put (b ∷ s) (suc i) a d h zero = refl
get_or-put (b ∷ s) (suc i) a d h (suc j) = get_or-put s i a d (omega arith) j

-- ---- a Boolean variable more
pub boolean-words : (m : Model) (n i : ℕ) (a : Bool) → i < limit.all_booleans
    → bits limit.all_booleans n ≡ set (bits limit.all_booleans m.booleans) i a
    → assignment (record { booleans = n; numerators = m.numerators; denominator = m.denominator }) ≡ with_boolean i a (assignment m)
unfolding assignment with_boolean
boolean-words m n i a h e =
    λ k. record { booleans = λ j. same j k; numerators = value m.numerators; denominator = m.denominator }
  where
    same : (j : ℕ) → get_or (bits limit.all_booleans n) j false ≡ put i a (λ j. get_or (bits limit.all_booleans m.booleans) j false) j
    same j = ap (λ (s : List Bool). get_or s j false) e
        ∙ get_or-put (bits limit.all_booleans m.booleans) i a false (omega (arith, length-bits limit.all_booleans m.booleans)) j

-- ---- numerators over a new denominator
module _ (a c m : ℤ) where
  put_both : (f : ℕ) (g z : ℕ → ℤ) → ((j : ℕ) → z j ≡ pos 0) → (j : ℕ)
      → c *ℤ put f (pos 0) g j +ℤ a *ℤ put f m z j ≡ put f (a *ℤ m) (λ j. g j *ℤ c) j
  unfolding put
  put_both zero g z e zero = rw (*-zeroʳ c) (+-identityˡ (a *ℤ m))
  put_both zero g z e (suc j) = rw (e (suc j), *-zeroʳ a, +-identityʳ (c *ℤ g (suc j))) (*-comm c (g (suc j)))
  put_both (suc f) g z e zero = rw (e 0, *-zeroʳ a, +-identityʳ (c *ℤ g 0)) (*-comm c (g 0))
  put_both (suc f) g z e (suc j) = put_both f (λ k. g (suc k)) (λ k. z (suc k)) (λ k. e (suc k)) j

  module _ (numerators : List ℤ) (n : length numerators ≡ limit.rationals) (f : ℕ) (h : f < limit.rationals) where
    abbrev row : List ℤ
    row = combine c (set numerators f (pos 0)) a (set (replicate limit.rationals (pos 0)) f m)

    pub scaled_value : value row ≡ put f (a *ℤ m) (λ j. value numerators j *ℤ c)
    unfolding value
    scaled_value = λ k j. same j k
      where
        same : (j : ℕ) → get_or row j (pos 0) ≡ put f (a *ℤ m) (λ j. get_or numerators j (pos 0) *ℤ c) j
        same j =
            get_or-combine c (set numerators f (pos 0)) a (set (replicate limit.rationals (pos 0)) f m) j
            ∙ rw (get_or-put numerators f (pos 0) (pos 0) (omega arith) j, get_or-put (replicate limit.rationals (pos 0)) f m (pos 0) h j)
            (put_both f (λ k. get_or numerators k (pos 0)) (λ k. get_or (replicate limit.rationals (pos 0)) k (pos 0))
            (λ k. get_or-replicate-same limit.rationals k (pos 0)) j)

-- ---- too large, by the numerators' list
-- the same test of a number, said with ≤ and with <
outside : (z : ℤ) → ltb amount (nat_abs z) ≡ not (in_range z)
unfolding in_range
outside z =
    tests_agree (ltb amount (nat_abs z)) (not (leb (nat_abs z) amount))
    (λ t. of-false (leb (nat_abs z) amount) (lt-leb (nat_abs z) amount (ltb→lt amount (nat_abs z) t)))
    (λ t. of-true (ltb amount (nat_abs z)) (lt-ltb amount (nat_abs z) (leb-false (nat_abs z) amount (is_false (leb (nat_abs z) amount) t))))

pub large-words : (row : List ℤ) (χ : Assignment) → length row ≡ limit.rationals → value row ≡ χ.numerators
    → too_large limit.rationals χ ≡ ltb amount χ.denominator || any (λ z. not (in_range z)) row
unfolding too_large value
large-words row χ n e =
    let t : tabulate limit.rationals χ.numerators ≡ row = ap (λ (g : ℕ → ℤ). tabulate limit.rationals g) (sym e)
    ∙ tabulate-take limit.rationals row (pos 0) (omega arith) ∙ take_all limit.rationals row (omega arith) in
    rw (
      t,
      any-agree (λ z. ltb amount (nat_abs z)) (λ z. not (in_range z)) row
          (every (λ z. ltb amount (nat_abs z) ≡ not (in_range z)) row outside),
    )

pub amounts-words : (row : List ℤ) → any (λ z. not (in_range z)) row ≡ false → Amounts row
amounts-words row e =
    small-amounts row (narrow-small row (of-false (any (λ z. not (in_range z)) row) e))

pub range-written : (m : Model) (r : ℕ) → InRange m → too_large r (assignment m) ≡ false
unfolding too_large assignment value
range-written m r h =
    rw (le-ltb amount m.denominator h.small)
    (none-tabulate (λ z. ltb amount (nat_abs z)) r (λ f. get_or m.numerators f (pos 0))
    (λ i k. le-ltb amount (nat_abs (get_or m.numerators i (pos 0))) (h.amounts.small i)))

-- ---- a rational variable more, over the common denominator D
module _ (m : Model) (f : ℕ) (x : Fraction) (D : ℕ) (common : D ≡ lcm m.denominator x.denominator) where
  pub denominator-large : amount < D → too_large limit.rationals (with_rational f x (assignment m)) ≡ true
  unfolding too_large with_rational assignment
  denominator-large h = rw (← common, lt-ltb amount D h)

  module _ (row : List ℤ) (n : length row ≡ limit.rationals)
      (e : value row ≡ put f (x.numerator *ℤ pos (D / x.denominator)) (λ j. value m.numerators j *ℤ pos (D / m.denominator))) where
    abbrev grown : Assignment
    grown = record { booleans = (assignment m).booleans; numerators = value row; denominator = D }

    grown-is : grown ≡ with_rational f x (assignment m)
    unfolding with_rational assignment
    grown-is = rw (← common, ← e)

    pub numerators-large : any (λ z. not (in_range z)) row ≡ true → too_large limit.rationals (with_rational f x (assignment m)) ≡ true
    numerators-large h = rw (← grown-is, large-words row grown n refl, h) (or-true (ltb amount D))

    pub rational-words : any (λ z. not (in_range z)) row ≡ false → 0 < D → D ≤ amount
        → Same (record { booleans = m.booleans; numerators = row; denominator = D }) (with_rational f x (assignment m))
    unfolding assignment
    rational-words h z l = record { same = grown-is; range = record { amounts = amounts-words row h; positive = z; small = l } }
