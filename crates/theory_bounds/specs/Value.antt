-- The value rule: where every lower bound agrees with every upper one, its value meets them all.
use Rattle.std.specs.Prelude.{Bool, true, false, ◌||◌, List, ◌*◌, pos, negsuc, ◌+ℤ◌, ◌*ℤ◌}
use Rattle.std.proofs.Math.Bool.{or_comm}
use Rattle.std.proofs.Common.{mul-pos, arith}
use Rattle.rules.specs.Arithmetic.{gcd_within, gcd}
use Rattle.rules.specs.Values.{Fraction, reduce, midpoint, plus, Bound, absent, present, value, Gathered}
use Rattle.theory_bounds.specs.Below.{Positive, Below, below-refl}
use Rattle.theory_bounds.specs.Arithmetic.{OfReduced, reduce-positive, plus-one-above, minus-one-below, midpoint-above}
use Rattle.theory_bounds.specs.Arithmetic.{midpoint-below}
use Rattle.theory_lists.specs.All.{All, all_map}
use Rattle.theory_bounds.specs.Tightest.{Each, Sound, Lower, Upper, greatest, least, tightest-sound, greatest-meets, greatest-agrees}
use Rattle.theory_bounds.specs.Tightest.{least-meets, least-agrees}

-- ---- of at most one bound on each side
pub value-lower : (L U : Bound) → Each (λ l s. Positive l) L → Each (λ u t. Each (λ l s. Below (s || t) l u) L) U
    → Each (Lower (value L U)) L
unfolding value
value-lower absent U p h = tt
value-lower (present l false) U p h = below-refl l p
value-lower (present l true) absent p h = plus-one-above l p
value-lower (present l true) (present u false) p h = h
value-lower (present l true) (present u true) p h = midpoint-above l u h

pub value-upper : (L U : Bound) → Each (λ u t. Positive u) U → Each (λ u t. Each (λ l s. Below (s || t) l u) L) U
    → Each (Upper (value L U)) U
unfolding value
value-upper L absent p h = tt
value-upper absent (present u false) p h = below-refl u p
value-upper absent (present u true) p h = minus-one-below u p
value-upper (present l false) (present u t) p h = h
value-upper (present l true) (present u false) p h = below-refl u p
value-upper (present l true) (present u true) p h = midpoint-below l u h

-- ---- what every reduced fraction has, the value has too, whether or not they agree
pub value-has : (P : Fraction → Type 0) → OfReduced P → (L U : Bound) → Each (λ l s. Positive l) L → Each (λ u t. Positive u) U
    → Each (λ l s. P l) L → Each (λ u t. P u) U → P (value L U)
unfolding value plus midpoint reduce gcd gcd_within
value-has P h absent absent p q i k = h (pos 0) 1 (omega arith)
value-has P h absent (present u false) p q i k = k
value-has P h absent (present u true) p q i k = h (u.numerator +ℤ negsuc 0 *ℤ pos u.denominator) u.denominator q
value-has P h (present l false) U p q i k = i
value-has P h (present l true) absent p q i k = h (l.numerator +ℤ pos 1 *ℤ pos l.denominator) l.denominator p
value-has P h (present l true) (present u false) p q i k = k
value-has P h (present l true) (present u true) p q i k =
    h (l.numerator *ℤ pos u.denominator +ℤ u.numerator *ℤ pos l.denominator) (2 * (l.denominator * u.denominator))
    (mul-pos (omega arith) (mul-pos p q))

pub value-positive : (L U : Bound) → Each (λ l s. Positive l) L → Each (λ u t. Positive u) U → Positive (value L U)
value-positive L U p q = value-has Positive reduce-positive L U p q p q

-- ---- of several
-- every lower bound agrees with every upper one: ≤, and < where either is strict
abbrev pub Agree : List Gathered → List Gathered → Type 0
Agree ls us = All (λ u. All (λ l. Below (l.strict || u.strict) l.at u.at) ls) us

module _ (ls us : List Gathered) (p : Sound ls) (q : Sound us) (h : Agree ls us) where
  -- then the greatest lower bound agrees with the least upper one
  tightest-agree : Each (λ u t. Each (λ l s. Below (s || t) l u) (greatest ls)) (least us)
  tightest-agree = by (greatest ls) (all_map (λ u. All (λ l. Below (l.strict || u.strict) l.at u.at) ls)
      (λ u. Each (λ l s. Below (s || u.strict) l u.at) (greatest ls)) us (λ u k. greatest-agrees ls u.at u.strict k) h)
    where
      each : (P Q : Fraction → Bool → Type 0) (B : Bound) → ((x : Fraction) (s : Bool) → P x s → Q x s) → Each P B → Each Q B
      each P Q absent f k = tt
      each P Q (present x s) f k = f x s k

      none : (B : Bound) → Each (λ u t. Unit {0}) B
      none absent = tt
      none (present x s) = tt

      by : (L : Bound) → All (λ u. Each (λ l s. Below (s || u.strict) l u.at) L) us
          → Each (λ u t. Each (λ l s. Below (s || t) l u) L) (least us)
      by absent k = none (least us)
      by (present l s) k =
          each (λ u t. Below (t || s) l u) (λ u t. Below (s || t) l u) (least us) (λ u t b. rw (or_comm s t) b)
          (least-agrees us l s (all_map (λ u. Below (s || u.strict) l u.at) (λ u. Below (u.strict || s) l u.at) us
          (λ u b. rw (or_comm u.strict s) b) k))

  abbrev v : Fraction
  v = value (greatest ls) (least us)

  pub value-meets-lowers : All (λ l. Below l.strict l.at v) ls
  value-meets-lowers = greatest-meets ls v p (value-lower (greatest ls) (least us) (tightest-sound _ ls p) tightest-agree)

  pub value-meets-uppers : All (λ u. Below u.strict v u.at) us
  value-meets-uppers = least-meets us v q (value-upper (greatest ls) (least us) (tightest-sound _ us q) tightest-agree)
