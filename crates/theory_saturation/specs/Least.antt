-- The denominator that the walk reaches is the least: whatever number its rational variables can be written over is a multiple of it. The
-- values are reduced, so a number over which one more can be written is a multiple of its denominator, and of the least one before.
use Rattle.std.specs.Prelude.{◌≡◌, Bool, List, [], ◌∷◌, ℕ, suc, ◌*◌, ◌/◌, ◌<◌, ℤ, pos, ◌*ℤ◌}
use Rattle.std.proofs.Math.Path.{refl}
use Rattle.std.proofs.Common.{ap, ◌∙◌, mul_comm, arith, eqb-true}
use Rattle.std.proofs.Math.Bool.{true, false}
use Rattle.std.specs.Int.{◌∣◌}
use Rattle.std.proofs.Math.Nat.{one-dvd, dvd-zero, dvd-mul_left, dvd_of_mul-dvd-mul_left, pos_of_dvd_of_pos}
use Rattle.std.proofs.Math.IntN.{nat_abs}
use Rattle.std.proofs.Math.Dec.{eqb}
use Rattle.std.proofs.lemmas.Bool.{eqb-false}
use Rattle.theory_integers.specs.Size.{abs-*}
use Rattle.rules.specs.Lists.{filter}
use Rattle.rules.specs.Arithmetic.{lcm}
use Rattle.rules.specs.Meaning.{Assignment}
use Rattle.rules.specs.Lines.{Line, Variable, rational, boolean}
use Rattle.rules.specs.Elimination.{round_of}
use Rattle.rules.specs.Values.{Fraction, rational_value, with_rational, with_boolean, assign, start, walk_from, walk}
use Rattle.theory_vectors.specs.Gcd.{gcd-comm, coprime-dvd}
use Rattle.theory_vectors.specs.Lcm.{lcm-positive, lcm-least}
use Rattle.theory_bounds.specs.Below.{Positive}
use Rattle.theory_bounds.specs.Reduced.{Coprime}
use Rattle.theory_bounds.specs.Meets.{with-same, with-other, exactˡ, exactʳ}
use Rattle.theory_saturation.specs.Gathered.{rational-sound, rational-coprime}
use Rattle.theory_saturation.specs.Once.{Alone, Once}
use Rattle.theory_saturation.specs.Unset.{Unset, walk-unset}

-- rational variable f can be written over m: m times it is whole
abbrev pub Over : Assignment → ℕ → ℕ → Type 0
Over χ m f = χ.denominator ∣ nat_abs (χ.numerators f) * m

abbrev pub Least : Assignment → Type 0
Least χ = (m : ℕ) → ((f : ℕ) → Over χ m f) → χ.denominator ∣ m

-- 0 can be written over any
pub over_zero : (χ : Assignment) (m f : ℕ) → χ.numerators f ≡ pos 0 → Over χ m f
over_zero χ m f e = let z : nat_abs (χ.numerators f) ≡ 0 = ap nat_abs e in let w : 0 * m ≡ 0 = omega arith in
    rw (z, w) (dvd-zero χ.denominator)

-- ---- one rational variable more
-- z / d is z × k over d × k
cancelled : (z : ℤ) (d k m : ℕ) → 0 < d * k → d * k ∣ nat_abs (z *ℤ pos k) * m → d ∣ nat_abs z * m
cancelled z d k m p h =
    let e : k * (nat_abs z * m) ≡ nat_abs (z *ℤ pos k) * m = omega (arith, ap (λ (a : ℕ). a * m) (abs-* z (pos k))) in
    let both : k * d ∣ k * (nat_abs z * m) = rw (e, mul_comm k d) h in
    dvd_of_mul-dvd-mul_left d (pos_of_dvd_of_pos (dvd-mul_left k d) p) both

module _ (f : ℕ) (x : Fraction) (χ : Assignment) (p : 0 < χ.denominator) (q : Positive x) where
  abbrev d : ℕ
  d = χ.denominator

  abbrev e : ℕ
  e = x.denominator

  abbrev D : ℕ
  D = lcm d e

  module _ (m : ℕ) (h : (j : ℕ) → Over (with_rational f x χ) m j) where
    over-before : χ.numerators f ≡ pos 0 → (j : ℕ) → Over χ m j
    unfolding with_rational
    over-before free j = by (eqb j f) refl
      where
        by : (t : Bool) → eqb j f ≡ t → Over χ m j
        by true i = over_zero χ m j (ap χ.numerators (eqb-true j f i) ∙ free)
        by false i = cancelled (χ.numerators j) d (D / d) m (rw (exactˡ f x χ p q) (lcm-positive d e p q))
            (rw (exactˡ f x χ p q) (rw (with-other f x χ j (eqb-false j f i)) at (h j)))

    own-divides : Coprime x → e ∣ m
    unfolding with_rational
    own-divides c =
        let n = nat_abs x.numerator in
        let k : e ∣ n * m = cancelled x.numerator e (D / e) m (rw (exactʳ f x χ p q) (lcm-positive d e p q))
        (rw (exactʳ f x χ p q) (rw (with-same f x χ) at (h f))) in
        coprime-dvd e n m (gcd-comm e n ∙ c) (rw (mul_comm m n) k)

  with-least : Coprime x → χ.numerators f ≡ pos 0 → Least χ → Least (with_rational f x χ)
  unfolding with_rational
  with-least c free least m h = lcm-least d e m p (least m (over-before m h free)) (own-divides m h c)

-- ---- the walk
assign-least : (vs : List Variable) (ls : List Line) (χ : Assignment) → Unset vs χ → Least χ → (v : Variable)
    → Alone v vs → Least (assign v ls χ)
unfolding assign with_boolean
assign-least vs ls χ s least (boolean i) h = least
assign-least vs ls χ s least (rational g) h =
    with-least g (rational_value χ g ls) χ s.positive (rational-sound χ s.positive g ls) (rational-coprime χ s.positive g ls)
    (s.free g h) least

walk-from-least : (variables : List Variable) (lines : List Line) (t : ℕ) (vs : List Variable) → Once vs
    → Least (walk_from variables lines t vs).assignment
unfolding walk_from start
walk-from-least variables lines t [] h = λ m w. one-dvd m
walk-from-least variables lines t (v ∷ vs) h =
    assign-least vs (filter (λ l. eqb (round_of variables l) t) lines) (walk_from variables lines (suc t) vs).assignment
    (walk-unset variables lines (suc t) vs) (walk-from-least variables lines (suc t) vs h.1) v h.0

pub walk-least : (variables : List Variable) → Once variables → (lines : List Line) → Least (walk variables lines).assignment
unfolding walk
walk-least variables h lines = walk-from-least variables lines 0 variables h
