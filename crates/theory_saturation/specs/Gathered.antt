-- The bounds that lines give on a rational: facts of all of them are facts of the lines; they and the value are reduced.
use Rattle.std.specs.Prelude.{Bool, not, ◌&&◌, ◌⊎◌, ℕ, ◌≤◌, T}
use Rattle.std.proofs.Math.Logic.{inl, inr}
use Rattle.std.proofs.Common.{⊎_elim}
use mathlib.Core.List.{List, [], ◌∷◌}
use Rattle.std.proofs.Math.Option.{Option, none, some}
use Rattle.std.proofs.Math.Facts.{and_yes}
use Rattle.rules.specs.Lists.{filter}
use Rattle.rules.specs.Arithmetic.{is_positive, is_negative}
use Rattle.rules.specs.Problem.{Constraint}
use Rattle.rules.specs.Meaning.{Assignment}
use Rattle.rules.specs.Lines.{Line, Variable, rational, a_literal_holds, coefficient, positively, negatively}
use Rattle.rules.specs.Values.{Fraction, bound_of, Gathered, bounds_of, gather, tightest, rational_value}
use Rattle.theory_lists.specs.All.{All, filter-all, all_filter, every}
use Rattle.theory_vectors.specs.Sign.{0<abs-positive, 0<abs-negative}
use Rattle.theory_bounds.specs.Below.{Positive}
use Rattle.theory_bounds.specs.Arithmetic.{OfReduced, reduce-positive, quotient-has}
use Rattle.theory_bounds.specs.Reduced.{Coprime, reduce-coprime}
use Rattle.theory_bounds.specs.Tightest.{Sound, tightest-one, tightest-sound}
use Rattle.theory_bounds.specs.Value.{value-has}
use Rattle.theory_bounds.specs.Meets.{rest}

-- what holds of the bound that a constraint gives, if there is one
abbrev pub OfBound : (Gathered → Type 0) → Assignment → ℕ → Option Constraint → Type 0
OfBound P χ f none = Unit {0}
OfBound P χ f (some c) = P (record { at = bound_of χ f c; strict = c.strict })

-- on this side of the rational, and no literal holds
abbrev pub gives : (Variable → Line → Bool) → Assignment → ℕ → Line → Bool
gives side χ f l = side (rational f) l && not (a_literal_holds χ l)

module _ (P : Gathered → Type 0) (χ : Assignment) (f : ℕ) where
  bounds-all : (ls : List Line) → All (λ l. OfBound P χ f l.constraint) ls → All P (bounds_of χ f ls)
  unfolding bounds_of
  bounds-all [] h = tt
  bounds-all (l ∷ ls) h = by l.constraint h.0 (bounds-all ls h.1)
    where
      by : (k : Option Constraint) → OfBound P χ f k → All P (bounds_of χ f ls)
          → All P (elim k [ none ↦ bounds_of χ f ls | some c ↦ record { at = bound_of χ f c; strict = c.strict } ∷ bounds_of χ f ls ])
      by none p r = r
      by (some c) p r = (p, r)

  all-bounds : (ls : List Line) → All P (bounds_of χ f ls) → All (λ l. OfBound P χ f l.constraint) ls
  unfolding bounds_of
  all-bounds [] h = tt
  all-bounds (l ∷ ls) h = let r = by l.constraint h in (r.0, all-bounds ls r.1)
    where
      by : (k : Option Constraint)
          → All P (elim k [ none ↦ bounds_of χ f ls | some c ↦ record { at = bound_of χ f c; strict = c.strict } ∷ bounds_of χ f ls ])
          → OfBound P χ f k × All P (bounds_of χ f ls)
      by none h = (tt, h)
      by (some c) h = h

  pub gather-all : (side : Variable → Line → Bool) (ls : List Line) → All (λ l. T (gives side χ f l) → OfBound P χ f l.constraint) ls
      → All P (gather side χ f ls)
  unfolding gather
  gather-all side ls h = bounds-all (filter (gives side χ f) ls) (filter-all (λ l. OfBound P χ f l.constraint) (gives side χ f) ls h)

  pub all-gather : (side : Variable → Line → Bool) (ls : List Line) → All P (gather side χ f ls)
      → All (λ l. T (gives side χ f l) → OfBound P χ f l.constraint) ls
  unfolding gather
  all-gather side ls h = all_filter (λ l. OfBound P χ f l.constraint) (gives side χ f) ls (all-bounds (filter (gives side χ f) ls) h)

-- ---- what every reduced fraction has, the bounds have too
module _ (P : Fraction → Type 0) (reduced : OfReduced P) (χ : Assignment) (z : 1 ≤ χ.denominator) (f : ℕ) (ls : List Line) where
  bound-has : (k : Option Constraint) → T (is_positive (coefficient f k)) ⊎ T (is_negative (coefficient f k)) → OfBound (λ g. P g.at) χ f k
  unfolding bound_of
  bound-has none s = tt
  bound-has (some c) s =
      let a = coefficient f (some c) in
      quotient-has P reduced (rest f c.coefficients c.bound χ.numerators χ.denominator) a χ.denominator
      (⊎_elim (0<abs-positive a) (0<abs-negative a) s) z

  gathered-have : (side : Variable → Line → Bool) → ((l : Line) → T (side (rational f) l) → T (is_positive (coefficient f l.constraint))
      ⊎ T (is_negative (coefficient f l.constraint))) → All (λ g. P g.at) (gather side χ f ls)
  gathered-have side s =
      gather-all (λ g. P g.at) χ f side ls
      (every (λ l. T (gives side χ f l) → OfBound (λ g. P g.at) χ f l.constraint) ls
      (λ l h. bound-has l.constraint (s l (and_yes (side (rational f) l) (not (a_literal_holds χ l)) h).0)))

  uppers-have : All (λ g. P g.at) (gather positively χ f ls)
  unfolding positively
  uppers-have = gathered-have positively (λ l h. inl h)

  lowers-have : All (λ g. P g.at) (gather negatively χ f ls)
  unfolding negatively
  lowers-have = gathered-have negatively (λ l h. inr h)

module _ (χ : Assignment) (z : 1 ≤ χ.denominator) (f : ℕ) (ls : List Line) where
  pub uppers-sound : Sound (gather positively χ f ls)
  uppers-sound = uppers-have Positive reduce-positive χ z f ls

  pub lowers-sound : Sound (gather negatively χ f ls)
  lowers-sound = lowers-have Positive reduce-positive χ z f ls

  -- and so has the value, whether or not the bounds agree
  rational-has : (P : Fraction → Type 0) → OfReduced P → P (rational_value χ f ls)
  unfolding rational_value
  rational-has P h =
      let ns = gather negatively χ f ls in
      let ps = gather positively χ f ls in
      value-has P h (tightest _ ns) (tightest _ ps) (tightest-sound _ ns lowers-sound) (tightest-sound _ ps uppers-sound)
      (tightest-one P _ ns (lowers-have P h χ z f ls)) (tightest-one P _ ps (uppers-have P h χ z f ls))

  pub rational-sound : Positive (rational_value χ f ls)
  rational-sound = rational-has Positive reduce-positive

  pub rational-coprime : Coprime (rational_value χ f ls)
  rational-coprime = rational-has Coprime reduce-coprime
