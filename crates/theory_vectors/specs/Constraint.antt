-- A linear constraint at the point x / d: its meaning when it is scaled or divided, and when one variable gets a new value.
use Rattle.std.specs.Prelude.{◌≡◌, refl, Bool, not, ◌↔◌, List, [], ◌∷◌, map, ℕ, zero, suc, ◌*◌, ◌<◌, ℤ, pos, nat_abs, ◌+ℤ◌, ◌-ℤ◌, ◌*ℤ◌}
use Rattle.std.specs.Prelude.{◌<ℤ◌, T, length, get_or, set}
use Rattle.std.proofs.Common.{sym, ap, ◌∙◌, mul-one, arith}
use Rattle.std.specs.Int.{◌∣◌}
use Rattle.std.proofs.Math.Nat.{mul-div_cancel', eq_of_mul-eq-mul_left}
use Rattle.std.specs.Int.Signed.{quot_z}
use Rattle.std.proofs.lemmas.List.{length-map}
use Rattle.theory_integers.specs.Difference.{v, ◌⊖◌, ◌⊗◌, ≡-by}
use Rattle.theory_integers.specs.Ring.{*-assoc, *-zeroˡ}
use Rattle.theory_integers.specs.Natural.{pos-mono-<}
use Rattle.theory_integers.specs.Quotient.{*-quot, quot-zero, abs-quot}
use Rattle.rules.specs.Lists.{all, put}
use Rattle.rules.specs.Arithmetic.{gcd, gcd_all, sum, scale, is_zero}
use Rattle.rules.specs.Problem.{Constraint}
use Rattle.rules.specs.Meaning.{Assignment, constraint_holds}
use Rattle.theory_vectors.specs.Gcd.{gcd-*, gcd_all-dvd, gcd_all-proper}
use Rattle.theory_vectors.specs.Dot.{sum-scale, sum-zero, sum-put, sum-without, sum-*}
use Rattle.theory_vectors.specs.Relation.{Rel, related-yes, yes-related, rel-*ˡ, rel-*ʳ, rel-*-cancelˡ, rel-*-cancelʳ, rel-minus}
use Rattle.theory_vectors.specs.Relation.{minus-rel}

-- sum of coefficient × numerator, against bound × denominator
abbrev pub Holds : Bool → List ℤ → ℤ → (ℕ → ℤ) → ℤ → Type 0
Holds strict cs bound x d = Rel strict (sum cs x) (bound *ℤ d)

-- the rules' test decides it
pub constraint-yes : (χ : Assignment) (c : Constraint) → T (constraint_holds χ c)
    → Holds c.strict c.coefficients c.bound χ.numerators (pos χ.denominator)
unfolding constraint_holds
constraint-yes χ c h = related-yes c.strict (sum c.coefficients χ.numerators) (c.bound *ℤ pos χ.denominator) h

pub yes-constraint : (χ : Assignment) (c : Constraint)
    → Holds c.strict c.coefficients c.bound χ.numerators (pos χ.denominator) → T (constraint_holds χ c)
unfolding constraint_holds
yes-constraint χ c h = yes-related h

-- ---- scaled and divided
-- with all coefficients 0 it says the same at every point
pub constant-holds : {s : Bool} (cs : List ℤ) (β : ℤ) (x : ℕ → ℤ) (d : ℤ) → T (all is_zero cs) → pos 0 <ℤ d
    → Holds s cs β x d ↔ Rel s (pos 0) β
constant-holds {s} cs β x d n z = (
  λ h. rel-*-cancelʳ (pos 0) β z (rw (*-zeroˡ d, ← sum-zero cs x n) h),
  λ h. rw (sum-zero cs x n) (rw (*-zeroˡ d) at (rel-*ʳ z h)),
)

pub scale-holds : {s : Bool} (g : ℤ) (cs : List ℤ) (β : ℤ) (x : ℕ → ℤ) (d : ℤ) → pos 0 <ℤ g
    → Holds s (scale g cs) (g *ℤ β) x d ↔ Holds s cs β x d
scale-holds g cs β x d z = (
  λ h. rel-*-cancelˡ (sum cs x) (β *ℤ d) z (rw (sum-scale g cs x, *-assoc g β d) at h),
  λ h. rw (sum-scale g cs x, *-assoc g β d) (rel-*ˡ z h),
)

abbrev pub quotients : ℕ → List ℤ → List ℤ
quotients g cs = map (λ z. quot_z z (pos g)) cs

pub get_or-quotients : (g : ℕ) (cs : List ℤ) (i : ℕ) → get_or (quotients g cs) i (pos 0) ≡ quot_z (get_or cs i (pos 0)) (pos g)
get_or-quotients g [] i = sym (quot-zero g)
get_or-quotients g (c ∷ cs) zero = refl
get_or-quotients g (c ∷ cs) (suc i) = get_or-quotients g cs i

pub length-quotients : (g : ℕ) (cs : List ℤ) → length (quotients g cs) ≡ length cs
length-quotients g cs = length-map cs (λ z. quot_z z (pos g))

pub scale-quotients : (g : ℕ) (cs : List ℤ) → ((i : ℕ) → g ∣ nat_abs (get_or cs i (pos 0))) → scale (pos g) (quotients g cs) ≡ cs
unfolding scale
scale-quotients g [] h = refl
scale-quotients g (c ∷ cs) h = rw (*-quot g c (h 0), scale-quotients g cs (λ i. h (suc i)))

-- divided by a common divisor
pub divide-holds : {s : Bool} (g : ℕ) (cs : List ℤ) (β : ℤ) (x : ℕ → ℤ) (d : ℤ) → 0 < g → g ∣ nat_abs β
    → ((i : ℕ) → g ∣ nat_abs (get_or cs i (pos 0))) → Holds s cs β x d ↔ Holds s (quotients g cs) (quot_z β (pos g)) x d
divide-holds {s} g cs β x d z b h =
    let r = scale-holds {s = s} (pos g) (quotients g cs) (quot_z β (pos g)) x d (pos-mono-< z) in
    (λ k. r.0 (rw (scale-quotients g cs h, *-quot g β b) k), λ k. rw (scale-quotients g cs h, *-quot g β b) at (r.1 k))

-- by the greatest one of bound and coefficients
pub reduce-holds : {s : Bool} (cs : List ℤ) (β : ℤ) (x : ℕ → ℤ) (d : ℤ) → T (not (all is_zero cs)) → Holds s cs β x d
    ↔ Holds s (quotients (gcd_all (β ∷ cs)) cs) (quot_z β (pos (gcd_all (β ∷ cs)))) x d
reduce-holds cs β x d n =
    divide-holds (gcd_all (β ∷ cs)) cs β x d (gcd_all-proper β cs n) (gcd_all-dvd (β ∷ cs) 0) (λ i. gcd_all-dvd (β ∷ cs) (suc i))

-- ---- variable i gets the value y / (d × k), and the others keep theirs over the new denominator
sides : (S k β d : ℤ) → (β *ℤ d -ℤ S) *ℤ k ≡ β *ℤ (d *ℤ k) -ℤ S *ℤ k
sides S k β d = ≡-by ((v β ⊗ v d ⊖ v S) ⊗ v k) (v β ⊗ (v d ⊗ v k) ⊖ v S ⊗ v k) (omega arith)

module _ {s : Bool} (cs : List ℤ) (β : ℤ) (i : ℕ) (y : ℤ) (x : ℕ → ℤ) (d k : ℤ) where
  pub put_holds : Holds s cs β (put i y (λ j. x j *ℤ k)) (d *ℤ k)
      ↔ Rel s (get_or cs i (pos 0) *ℤ y) ((β *ℤ d -ℤ sum (set cs i (pos 0)) x) *ℤ k)
  put_holds =
      let C = get_or cs i (pos 0) in
      let S = sum (set cs i (pos 0)) x in
      let e : sum cs (put i y (λ j. x j *ℤ k)) ≡ C *ℤ y +ℤ S *ℤ k = sum-put cs i y (λ j. x j *ℤ k)
      ∙ ap (λ (t : ℤ). C *ℤ y +ℤ t) (sum-* (set cs i (pos 0)) x k) in (
        λ h. rw (sides S k β d) (rel-minus (C *ℤ y) (S *ℤ k) (β *ℤ (d *ℤ k)) (rw e at h)),
        λ h. rw e (minus-rel (C *ℤ y) (S *ℤ k) (β *ℤ (d *ℤ k)) (rw (sides S k β d) at h)),
      )

  -- a constraint without variable i does not see it
  pub put_keeps : pos 0 <ℤ k → get_or cs i (pos 0) ≡ pos 0 → Holds s cs β (put i y (λ j. x j *ℤ k)) (d *ℤ k) ↔ Holds s cs β x d
  put_keeps z e =
      let f : sum cs (put i y (λ j. x j *ℤ k)) ≡ sum cs x *ℤ k = sum-without cs i y (λ j. x j *ℤ k) e ∙ sum-* cs x k in
      (λ h. rel-*-cancelʳ (sum cs x) (β *ℤ d) z (rw (*-assoc β d k, ← f) h), λ h. rw (f, ← *-assoc β d k) (rel-*ʳ z h))

-- what is divided by its greatest common divisor has no common divisor but 1
quotients-content : (g : ℕ) (zs : List ℤ) → ((i : ℕ) → g ∣ nat_abs (get_or zs i (pos 0))) → g * gcd_all (quotients g zs) ≡ gcd_all zs
unfolding gcd_all
quotients-content g [] d = omega arith
quotients-content g (z ∷ zs) d =
    let e : g * nat_abs (quot_z z (pos g)) ≡ nat_abs z = ap (λ (n : ℕ). g * n) (abs-quot g z) ∙ mul-div_cancel' g (d 0) in
    let r = quotients-content g zs (λ i. d (suc i)) in
    sym (gcd-* g (nat_abs (quot_z z (pos g))) (gcd_all (quotients g zs))) ∙ (λ i. gcd (e i) (r i))

pub content-one : (zs : List ℤ) → 0 < gcd_all zs → gcd_all (quotients (gcd_all zs) zs) ≡ 1
content-one zs h =
    let g = gcd_all zs in
    eq_of_mul-eq-mul_left g h (gcd_all (quotients g zs)) 1 (quotients-content g zs (gcd_all-dvd zs) ∙ sym (mul-one g))
