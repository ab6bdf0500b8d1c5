-- A rational variable without a coefficient in any line has no bound, and the walk gives it the value 0.
use Rattle.std.specs.Prelude.{◌≡◌, Bool, true, false, not, ℕ, suc, ◌/◌}
use Rattle.std.proofs.Math.Path.{refl}
use Rattle.std.proofs.Common.{◌∙◌, eqb-true}
use mathlib.Core.List.{List, [], ◌∷◌}
use Rattle.std.proofs.Math.IntN.{pos}
use Rattle.std.proofs.Math.Dec.{T, eqb}
use Rattle.std.proofs.lemmas.Bool.{eqb-false}
use Rattle.std.proofs.Math.Facts.{and_yes}
use Rattle.theory_integers.specs.Ring.{*-zeroˡ}
use Rattle.rules.specs.Lists.{filter}
use Rattle.rules.specs.Arithmetic.{is_positive, is_negative, lcm}
use Rattle.rules.specs.Meaning.{Assignment}
use Rattle.rules.specs.Lines.{Line, Variable, rational, boolean, coefficient, a_literal_holds, positively, negatively}
use Rattle.rules.specs.Elimination.{round_of}
use Rattle.rules.specs.Values.{Fraction, Gathered, gather, tightest, value, rational_value, with_rational, with_boolean, assign, start}
use Rattle.rules.specs.Values.{walk_from}
use Rattle.theory_lists.specs.All.{All, all_map, filter-all}
use Rattle.theory_bounds.specs.Meets.{with-same, with-zero}
use Rattle.theory_saturation.specs.Gathered.{OfBound, gives, gather-all}

abbrev pub Without : ℕ → List Line → Type 0
Without f ls = All (λ l. coefficient f l.constraint ≡ pos 0) ls

-- ---- one round
none_left : (gs : List Gathered) → All (λ g. ⊥) gs → gs ≡ []
none_left [] h = refl
none_left (g ∷ gs) h = absurd h.0

module _ (χ : Assignment) (f : ℕ) (ls : List Line) (h : Without f ls) where
  nothing : (side : Variable → Line → Bool) → ((l : Line) → coefficient f l.constraint ≡ pos 0 → T (side (rational f) l) → ⊥)
      → gather side χ f ls ≡ []
  nothing side never =
      none_left (gather side χ f ls)
      (gather-all (λ g. ⊥) χ f side ls
      (all_map (λ l. coefficient f l.constraint ≡ pos 0) (λ l. T (gives side χ f l) → OfBound (λ g. ⊥) χ f l.constraint) ls
      (λ l e t. absurd (never l e (and_yes (side (rational f) l) (not (a_literal_holds χ l)) t).0)) h))

  value-zero : (rational_value χ f ls).numerator ≡ pos 0
  unfolding rational_value tightest value positively negatively is_positive is_negative
  value-zero = rw (nothing negatively lower, nothing positively upper)
    where
      lower : (l : Line) → coefficient f l.constraint ≡ pos 0 → T (negatively (rational f) l) → ⊥
      lower l e t = rw e at t

      upper : (l : Line) → coefficient f l.constraint ≡ pos 0 → T (positively (rational f) l) → ⊥
      upper l e t = rw e at t

-- ---- the walk
module _ (variables : List Variable) (lines : List Line) (f : ℕ) (h : Without f lines) where
  assign-zero : (t : ℕ) (v : Variable) (χ : Assignment) → χ.numerators f ≡ pos 0
      → (assign v (filter (λ l. eqb (round_of variables l) t) lines) χ).numerators f ≡ pos 0
  unfolding assign with_boolean
  assign-zero t (boolean i) χ z = z
  assign-zero t (rational g) χ z = by (eqb f g) refl
    where
      ls : List Line
      ls = filter (λ l. eqb (round_of variables l) t) lines

      x : Fraction
      x = rational_value χ g ls

      without : Without f ls
      without = filter-all (λ l. coefficient f l.constraint ≡ pos 0) (λ l. eqb (round_of variables l) t) lines (all_map (λ l. coefficient
          f l.constraint ≡ pos 0) (λ l. T (eqb (round_of variables l) t) → coefficient f l.constraint ≡ pos 0) lines (λ l e u. e) h)

      by : (b : Bool) → eqb f g ≡ b → (with_rational g x χ).numerators f ≡ pos 0
      by true e =
          let i = eqb-true f g e in
          rw (← i) (with-same f (rational_value χ f ls) χ ∙ rw (value-zero χ f ls without)
          (*-zeroˡ (pos (lcm χ.denominator (rational_value χ f ls).denominator / (rational_value χ f ls).denominator))))
      by false e = with-zero g x χ f (eqb-false f g e) z

  pub walk-zero : (t : ℕ) (vs : List Variable) → (walk_from variables lines t vs).assignment.numerators f ≡ pos 0
  unfolding walk_from start
  walk-zero t [] = refl
  walk-zero t (v ∷ vs) = assign-zero t v (walk_from variables lines (suc t) vs).assignment (walk-zero (suc t) vs)
