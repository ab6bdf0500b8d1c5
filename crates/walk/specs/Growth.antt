-- What is too large stays too large: the common denominator becomes a multiple of itself, and the numerators grow with it.
use Rattle.std.specs.Prelude.{◌≡◌, Bool, ◌||◌, List, ◌∷◌, ℕ, zero, suc, ◌*◌, ◌/◌, ◌≤◌, ◌<◌, ℤ, pos, nat_abs, ◌*ℤ◌, eqb, length, get_or}
use Rattle.std.specs.Prelude.{drop}
use Rattle.std.proofs.Math.Path.{refl}
use Rattle.std.proofs.Common.{ap, subst, ◌∙◌, le-mul_of_pos_right, arith, drop-cons}
use Rattle.std.proofs.Math.Bool.{true, false, or-true}
use Rattle.std.proofs.Math.Nat.{mul-div_cancel', le_of_dvd, pos_of_dvd_of_pos, dvd-mul_left}
use Rattle.std.proofs.Math.Dec.{ltb}
use borrow.Author.Tests.{ltb-true, lt-ltb, eqb-true, eqb-false}
use Rattle.rules_types.specs.Limits.{amount}
use Rattle.theory_integers.specs.Size.{abs-*}
use Rattle.rules.specs.Lists.{any, tabulate, put}
use Rattle.rules.specs.Arithmetic.{lcm}
use Rattle.rules.specs.Meaning.{Assignment}
use Rattle.rules.specs.Lines.{Line, Variable, rational, boolean}
use Rattle.rules.specs.Values.{Fraction, rational_value, with_rational, with_boolean, assign, exceeds, Walked, walk_from}
use Rattle.rules.specs.Model.{too_large}
use Rattle.theory_vectors.specs.Put.{put_other}
use Rattle.theory_vectors.specs.Lcm.{lcm-dvdˡ, lcm-positive}
use Rattle.theory_bounds.specs.Below.{Positive}
use Rattle.theory_saturation.specs.Gathered.{rational-sound}
use Rattle.theory_saturation.specs.Once.{Alone, Once, once-drop}
use Rattle.theory_saturation.specs.Unset.{Unset, walk-unset}
use Rattle.values.specs.Round.{own}

-- of functions, place by place
any-grows : (p : ℤ → Bool) (n : ℕ) (g h : ℕ → ℤ) → ((i : ℕ) → p (g i) ≡ true → p (h i) ≡ true) → any p (tabulate n g) ≡ true
    → any p (tabulate n h) ≡ true
unfolding any tabulate
any-grows p zero g h k e = e
any-grows p (suc n) g h k e = by (p (g 0)) refl e (any-grows p n (λ i. g (suc i)) (λ i. h (suc i)) (λ i. k (suc i)))
  where
    by : (b : Bool) → p (g 0) ≡ b → b || any p (tabulate n (λ i. g (suc i))) ≡ true → (any p (tabulate n (λ i. g (suc i))) ≡ true
        → any p (tabulate n (λ i. h (suc i))) ≡ true) → p (h 0) || any p (tabulate n (λ i. h (suc i))) ≡ true
    by true i w r = rw (k 0 i)
    by false i w r = rw (r w) (or-true (p (h 0)))

module _ (f : ℕ) (x : Fraction) (χ : Assignment) (z : 0 < χ.denominator) (q : Positive x) (free : χ.numerators f ≡ pos 0) where
  abbrev d : ℕ
  d = χ.denominator

  abbrev D : ℕ
  D = lcm d x.denominator

  larger : d ≤ D
  larger = le_of_dvd (lcm-positive d x.denominator z q) (lcm-dvdˡ d x.denominator z)

  factor : 0 < D / d
  factor = pos_of_dvd_of_pos (dvd-mul_left (D / d) d)
      (rw (mul-div_cancel' d (lcm-dvdˡ d x.denominator z)) (lcm-positive d x.denominator z q))

  abbrev scaled : ℕ → ℤ
  scaled = put f (x.numerator *ℤ pos (D / x.denominator)) (λ j. χ.numerators j *ℤ pos (D / d))

  numerator-grows : (j : ℕ) → ltb amount (nat_abs (χ.numerators j)) ≡ true → ltb amount (nat_abs (scaled j)) ≡ true
  numerator-grows j e = by (eqb j f) refl
    where
      by : (t : Bool) → eqb j f ≡ t → ltb amount (nat_abs (scaled j)) ≡ true
      by true i =
          let h : nat_abs (χ.numerators j) ≡ 0 = ap (λ (k : ℕ). nat_abs (χ.numerators k)) (eqb-true j f i) ∙ ap nat_abs free in
          absurd (omega (arith, ltb-true amount (nat_abs (χ.numerators j)) e))
      by false i =
          rw (
            put_other f (x.numerator *ℤ pos (D / x.denominator)) (λ j. χ.numerators j *ℤ pos (D / d)) j (eqb-false j f i),
            abs-* (χ.numerators j) (pos (D / d)),
          )
          (lt-ltb amount (nat_abs (χ.numerators j) * (D / d))
          (omega (arith, le-mul_of_pos_right (nat_abs (χ.numerators j)) factor, ltb-true amount (nat_abs (χ.numerators j)) e)))

  rational-grows : (r : ℕ) → too_large r χ ≡ true → too_large r (with_rational f x χ) ≡ true
  unfolding too_large with_rational
  rational-grows r e = by (ltb amount d) refl e
    where
      by : (t : Bool) → ltb amount d ≡ t → t || any (λ z. ltb amount (nat_abs z)) (tabulate r χ.numerators) ≡ true
          → ltb amount D || any (λ z. ltb amount (nat_abs z)) (tabulate r scaled) ≡ true
      by true i w = rw (lt-ltb amount D (omega (arith, larger, ltb-true amount d i)))
      by false i w =
          rw (any-grows (λ z. ltb amount (nat_abs z)) r χ.numerators scaled numerator-grows w)
          (or-true (ltb amount D))

pub assign-grows : (vs : List Variable) (ls : List Line) (χ : Assignment) → Unset vs χ → (v : Variable) (r : ℕ) → Alone v vs
    → too_large r χ ≡ true → too_large r (assign v ls χ) ≡ true
unfolding assign with_boolean too_large
assign-grows vs ls χ s (boolean i) r h e = e
assign-grows vs ls χ s (rational g) r h e =
    rational-grows g (rational_value χ g ls) χ s.positive (rational-sound χ s.positive g ls) (s.free g h) r e

-- ---- the walk
module _ (variables : List Variable) (lines : List Line) where
  -- it cannot be written, and so not at the end
  abbrev pub unwritable : ℕ → Walked → Bool
  unwritable r w = w.exceeded || too_large r w.assignment

  unwritable-next : (r t : ℕ) (v : Variable) (vs : List Variable) → Once (v ∷ vs)
      → unwritable r (walk_from variables lines (suc t) vs) ≡ true → unwritable r (walk_from variables lines t (v ∷ vs)) ≡ true
  unfolding walk_from
  unwritable-next r t v vs h e = by w.exceeded (too_large r w.assignment) refl (exceeds v mine w.assignment) e
    where
      w : Walked
      w = walk_from variables lines (suc t) vs

      mine : List Line
      mine = own variables t lines

      by : (x l : Bool) → too_large r w.assignment ≡ l → (y : Bool) → x || l ≡ true → (x || y)
          || too_large r (assign v mine w.assignment) ≡ true
      by true l i y k = refl
      by false l i y k =
          rw (assign-grows vs mine w.assignment (walk-unset variables lines (suc t) vs) v r h.0 (i ∙ k)) (or-true y)

  pub unwritable-end : Once variables → (r t : ℕ) → t ≤ length variables
      → unwritable r (walk_from variables lines t (drop t variables)) ≡ true → unwritable r (walk_from variables lines 0 variables) ≡ true
  unwritable-end o r zero h e = e
  unwritable-end o r (suc t) h e =
      let v = get_or variables t (rational 0) in
      let d = drop-cons variables t (rational 0) (omega arith) in
      unwritable-end o r t (omega arith)
      (rw d (unwritable-next r t v (drop (suc t) variables) (subst Once d (once-drop t variables o)) e))
