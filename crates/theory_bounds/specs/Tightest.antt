-- The tightest of several bounds: what meets it meets them all, and what each of them agrees with, it agrees with. Once for any side;
-- lower bounds and upper bounds are the two instances.
use Rattle.std.specs.Prelude.{◌≡◌, Bool, not, ◌||◌, T}
use Rattle.std.proofs.Math.Path.{refl}
use Rattle.std.proofs.Math.Bool.{true, false, or_comm}
use mathlib.Core.List.{List, [], ◌∷◌}
use Rattle.rules.specs.Values.{Fraction, less, Bound, absent, present, tighter, Gathered, tightest}
use Rattle.theory_bounds.specs.Below.{Positive, Below, below-trans, below-orˡ, below-orʳ, less-yes, less-no}
use Rattle.theory_lists.specs.All.{All}

-- what holds of a bound, if there is one
abbrev pub Each : (Fraction → Bool → Type 0) → Bound → Type 0
Each P absent = Unit {0}
Each P (present x s) = P x s

abbrev pub Sound : List Gathered → Type 0
Sound gs = All (λ g. Positive g.at) gs

-- ---- a property that one of two bounds has, and equal ones have together, is the tightest's
module _ (before : Fraction → Fraction → Bool) (P : Fraction → Bool → Type 0)
    (join : (x y : Fraction) (s t : Bool) → T (not (before x y)) → T (not (before y x)) → P x s → P y t → P y (s || t)) where
  pub tighter-has : (x : Fraction) (s : Bool) (B : Bound) → P x s → Each P B → Each P (tighter before x s B)
  unfolding tighter
  tighter-has x s absent h k = h
  tighter-has x s (present y t) h k = by (before x y) (before y x) refl refl
    where
      by : (c d : Bool) → before x y ≡ c → before y x ≡ d
          → Each P (elim c [ true ↦ present x s | false ↦ elim d [ true ↦ present y t | false ↦ present y (s || t) ] ])
      by true d e f = h
      by false true e f = k
      by false false e f = join x y s t (rw e tt) (rw f tt) h k

  tightest-has : (gs : List Gathered) → All (λ g. P g.at g.strict) gs → Each P (tightest before gs)
  unfolding tightest
  tightest-has [] h = tt
  tightest-has (g ∷ gs) h = tighter-has g.at g.strict (tightest before gs) h.0 (tightest-has gs h.1)

-- it is at one of them
pub tightest-one : (P : Fraction → Type 0) (before : Fraction → Fraction → Bool) (gs : List Gathered) → All (λ g. P g.at) gs
    → Each (λ x s. P x) (tightest before gs)
tightest-one P before gs h = tightest-has before (λ x s. P x) (λ x y s t e f p q. q) gs h

pub tightest-sound : (before : Fraction → Fraction → Bool) (gs : List Gathered) → Sound gs → Each (λ x s. Positive x) (tightest before gs)
tightest-sound = tightest-one Positive

-- ---- R s x z: the bound x, strict where s, is met by z. `before x y`: x is tighter than y
module _ (R : Bool → Fraction → Fraction → Type 0) (before : Fraction → Fraction → Bool)
    (positive : (s : Bool) (x y : Fraction) → R s x y → Positive x)
    (trans : (s t : Bool) (x y z : Fraction) → R s x y → R t y z → R (s || t) x z)
    (orˡ : (s t : Bool) (x y : Fraction) → R (s || t) x y → R s x y)
    (orʳ : (s t : Bool) (x y : Fraction) → R (s || t) x y → R t x y)
    (is-before : (x y : Fraction) → Positive x → Positive y → T (before x y) → R true y x)
    (not-before : (x y : Fraction) → Positive x → Positive y → T (not (before x y)) → R false x y) where
  abbrev Met : Fraction → Fraction → Bool → Type 0
  Met z x s = R s x z

  tighter-meets : (x : Fraction) (s : Bool) (B : Bound) (z : Fraction) → Positive x → Each (λ y t. Positive y) B
      → Each (Met z) (tighter before x s B) → R s x z × Each (Met z) B
  unfolding tighter
  tighter-meets x s absent z p q h = (h, tt)
  tighter-meets x s (present y t) z p q h = by (before x y) (before y x) refl refl h
    where
      by : (c d : Bool) → before x y ≡ c → before y x ≡ d → Each (Met z)
          (elim c [ true ↦ present x s | false ↦ elim d [ true ↦ present y t | false ↦ present y (s || t) ] ]) → R s x z × R t y z
      by true d e f h = (h, orʳ true t y z (trans true s y x z (is-before x y p q (rw e tt)) h))
      by false true e f h = (orʳ true s x z (trans true t x y z (is-before y x q p (rw f tt)) h), h)
      by false false e f h = (orˡ s t x z (trans false (s || t) x y z (not-before x y p q (rw e tt)) h), orʳ s t y z h)

  tightest-meets : (gs : List Gathered) (z : Fraction) → Sound gs → Each (Met z) (tightest before gs)
      → All (λ g. R g.strict g.at z) gs
  unfolding tightest
  tightest-meets [] z p h = tt
  tightest-meets (g ∷ gs) z p h =
      let r = tighter-meets g.at g.strict (tightest before gs) z p.0 (tightest-sound before gs p.1) h in
      (r.0, tightest-meets gs z p.1 r.1)

  -- of two equal bounds the strict one counts
  tightest-agrees : (gs : List Gathered) (z : Fraction) (w : Bool) → All (λ g. R (g.strict || w) g.at z) gs
      → Each (λ x s. R (s || w) x z) (tightest before gs)
  tightest-agrees gs z w h = tightest-has before (λ x s. R (s || w) x z) join gs h
    where
      join : (x y : Fraction) (s t : Bool) → T (not (before x y)) → T (not (before y x)) → R (s || w) x z
          → R (t || w) y z → R ((s || t) || w) y z
      join x y true t e f h k = trans false true y x z (not-before y x (positive (t || w) y z k) (positive true x z h) f) h
      join x y false t e f h k = k

-- ---- the two sides
abbrev pub greatest : List Gathered → Bound
greatest ls = tightest (λ x y. less y x) ls

abbrev pub least : List Gathered → Bound
least us = tightest less us

abbrev pub Lower : Fraction → Fraction → Bool → Type 0
Lower z x s = Below s x z

abbrev pub Upper : Fraction → Fraction → Bool → Type 0
Upper z x s = Below s z x

pub greatest-meets : (ls : List Gathered) (z : Fraction) → Sound ls → Each (Lower z) (greatest ls)
    → All (λ g. Lower z g.at g.strict) ls
greatest-meets = tightest-meets Below (λ x y. less y x) (λ s x y h. h.left) (λ s t x y z. below-trans) (λ s t x y. below-orˡ s t)
    (λ s t x y. below-orʳ s t) (λ x y p q. less-yes y x q p) (λ x y p q. less-no y x q p)

pub greatest-agrees : (ls : List Gathered) (z : Fraction) (w : Bool) → All (λ g. Below (g.strict || w) g.at z) ls
    → Each (λ x s. Below (s || w) x z) (greatest ls)
greatest-agrees = tightest-agrees Below (λ x y. less y x) (λ s x y h. h.left) (λ s t x y z. below-trans) (λ s t x y. below-orˡ s t)
    (λ s t x y. below-orʳ s t) (λ x y p q. less-yes y x q p) (λ x y p q. less-no y x q p)

pub least-meets : (us : List Gathered) (z : Fraction) → Sound us → Each (Upper z) (least us) → All (λ g. Upper z g.at g.strict) us
least-meets = tightest-meets (λ s x y. Below s y x) less (λ s x y h. h.right) (λ s t x y z h k. rw (or_comm s t) (below-trans k h))
    (λ s t x y. below-orˡ s t) (λ s t x y. below-orʳ s t) less-yes less-no

pub least-agrees : (us : List Gathered) (z : Fraction) (w : Bool) → All (λ g. Below (g.strict || w) z g.at) us
    → Each (λ x s. Below (s || w) z x) (least us)
least-agrees = tightest-agrees (λ s x y. Below s y x) less (λ s x y h. h.right) (λ s t x y z h k. rw (or_comm s t) (below-trans k h))
    (λ s t x y. below-orˡ s t) (λ s t x y. below-orʳ s t) less-yes less-no
