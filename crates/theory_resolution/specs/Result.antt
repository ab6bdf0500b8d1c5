-- What a pair's resolvent is, said by members, coefficients and bounds: the two lines combined, then normalized.
use Rattle.std.specs.Prelude.{◌≡◌, refl, Bool, false, not, ◌||◌, ◌⊎◌, List, [], ◌∷◌, ℕ, zero, suc, ◌<◌, ℤ, pos, nat_abs, ◌+ℤ◌, ◌*ℤ◌, T}
use Rattle.std.specs.Prelude.{get_or}
use Rattle.std.proofs.Common.{sym, ap, ◌∙◌, inl, inr, arith}
use Rattle.std.proofs.Math.Option.{Option, none, some}
use Rattle.std.proofs.Math.Facts.{yes_and}
use Rattle.rules.specs.Lists.{all}
use Rattle.rules.specs.Arithmetic.{gcd_all, is_zero, related}
use Rattle.rules.specs.Problem.{Constraint}
use Rattle.rules.specs.Lines.{Booleans, Line, Variable, rational, boolean, coefficient, excluding, union, meet}
use Rattle.rules.specs.Normalize.{Settled, always, never, kept, settled, settled_line, reduced, normal_line}
use Rattle.rules.specs.Resolve.{combination, combination_of, one_of, resolvent, resolve}
use Rattle.theory_lists.specs.Tests.{clash}
use Rattle.theory_integers.specs.Quotient.{*-quot}
use Rattle.theory_vectors.specs.Sign.{zero-yes, yes-zero}
use Rattle.theory_vectors.specs.Dot.{get_or-combine, get_or-zero}
use Rattle.theory_vectors.specs.Gcd.{gcd_all-dvd, gcd_all-proper}
use Rattle.theory_vectors.specs.Constraint.{get_or-quotients}
use Rattle.theory_vectors.specs.Relation.{Rel, related-yes, yes-related}
use Rattle.theory_resolution.specs.Members.{has, has-union, excluded, meet-member, Common, member-meet}
use Rattle.theory_resolution.specs.Settled.{settled-cases}
use Rattle.theory_resolution.specs.NormalLine.{line-ends}
use Rattle.theory_resolution.specs.Proper.{Divided, reduced-divided}

-- ---- combined
-- "both lines' literals"; "the literals of both without it"
abbrev pub Together : Variable → Booleans → Booleans → Booleans → Type 0
Together (rational f) s t r = (i : ℕ) → has r i ≡ has s i || has t i
Together (boolean v) s t r = (has r v ≡ false) × ((i : ℕ) → (i ≡ v → ⊥) → has r i ≡ has s i || has t i)

-- "c × upper + a × lower, where a is the upper's coefficient and c the size of the lower's; < if either is <"
pub record Combined (f : ℕ) (u l d : Constraint) : Type 0 where
  pub strict : d.strict ≡ u.strict || l.strict
  pub coefficients : (i : ℕ) → coefficient i (some d)
      ≡ pos (nat_abs (coefficient f (some l))) *ℤ coefficient i (some u) +ℤ coefficient f (some u) *ℤ coefficient i (some l)
  pub bound : d.bound ≡ pos (nat_abs (coefficient f (some l))) *ℤ u.bound +ℤ coefficient f (some u) *ℤ l.bound

-- by a rational variable, of two constraints; by a Boolean variable "the condition where one line has one"
abbrev pub Both : Variable → Option Constraint → Option Constraint → Option Constraint → Type 0
Both (rational f) (some u) (some l) k = (d : Constraint) × (k ≡ some d) × Combined f u l d
Both (rational f) (some u) none k = k ≡ none
Both (rational f) none l k = k ≡ none
Both (boolean i) none l k = k ≡ l
Both (boolean i) (some u) none k = k ≡ some u
Both (boolean i) (some u) (some l) k = Unit {0}

pub record Combines (v : Variable) (u l r : Line) : Type 0 where
  pub positive : Together v u.positive l.positive r.positive
  pub negative : Together v u.negative l.negative r.negative
  pub constraint : Both v u.constraint l.constraint r.constraint

-- ---- normalized
-- "A condition with all coefficients 0"
abbrev pub Constant : Constraint → Type 0
Constant c = (i : ℕ) → coefficient i (some c) ≡ pos 0

-- "divided by the greatest common divisor of coefficients and bound"
pub record DividedBy (c d : Constraint) : Type 0 where
  pub by : ℕ
  pub positive : 0 < by
  pub strict : d.strict ≡ c.strict
  pub coefficients : (i : ℕ) → pos by *ℤ coefficient i (some d) ≡ coefficient i (some c)
  pub bound : pos by *ℤ d.bound ≡ c.bound
  pub whole : Divided (some d)

-- "if false, the condition alone is struck out. Other conditions are divided"
abbrev pub Settles : Option Constraint → Option Constraint → Type 0
Settles none k = k ≡ none
Settles (some c) none = Constant c × (Rel c.strict (pos 0) c.bound → ⊥)
Settles (some c) (some d) = (Constant c → ⊥) × DividedBy c d

-- "A mark in both signs: the clause is dropped"; a constant that is true "drops the clause"
abbrev pub Normalizes : Line → Option Line → Type 0
Normalizes l none = Common l.positive l.negative
    ⊎ ((c : Constraint) × (l.constraint ≡ some c) × Constant c × Rel c.strict (pos 0) c.bound)
Normalizes l (some m) = (Common l.positive l.negative → ⊥) × (m.positive ≡ l.positive) × (m.negative ≡ l.negative)
    × Settles l.constraint m.constraint

-- the resolvent of a pair: dropped, or the line that is left
pub record IsResolvent (v : Variable) (u l : Line) (result : Option Line) : Type 0 where
  pub combined : Line
  pub combines : Combines v u l combined
  pub normalizes : Normalizes combined result

-- ---- so it is: combined
other-member : (v : ℕ) (s : Booleans) (i : ℕ) → (i ≡ v → ⊥) → has (excluding v s) i ≡ has s i
unfolding excluding
other-member v [] i h = refl
other-member zero (a ∷ s) zero h = absurd (h refl)
other-member zero (a ∷ s) (suc i) h = refl
other-member (suc v) (a ∷ s) zero h = refl
other-member (suc v) (a ∷ s) (suc i) h = other-member v s i (λ e. h (ap suc e))

without-both : (v : ℕ) (s t : Booleans) → Together (boolean v) s t (excluding v (union s t))
without-both v s t = (excluded v (union s t), λ i h. other-member v (union s t) i h ∙ has-union s t i)

combination-combined : (f : ℕ) (u l : Constraint) → Combined f u l (combination f u l)
unfolding combination coefficient
combination-combined f u l =
    let a = coefficient f (some u) in
    let c = pos (nat_abs (coefficient f (some l))) in
    record { strict = refl; coefficients = get_or-combine c u.coefficients a l.coefficients; bound = refl }

of-rational : (f : ℕ) (u l : Option Constraint) → Both (rational f) u l (combination_of f u l)
unfolding combination_of
of-rational f none l = refl
of-rational f (some u) none = refl
of-rational f (some u) (some l) = (combination f u l, refl, combination-combined f u l)

of-boolean : (i : ℕ) (u l : Option Constraint) → Both (boolean i) u l (one_of u l)
unfolding one_of
of-boolean i none l = refl
of-boolean i (some u) none = refl
of-boolean i (some u) (some l) = tt

resolvent-combines : (v : Variable) (u l : Line) → Combines v u l (resolvent v u l)
unfolding resolvent
resolvent-combines (rational f) u l = record {
  positive = has-union u.positive l.positive;
  negative = has-union u.negative l.negative;
  constraint = of-rational f u.constraint l.constraint;
}
resolvent-combines (boolean i) u l = record {
  positive = without-both i u.positive l.positive;
  negative = without-both i u.negative l.negative;
  constraint = of-boolean i u.constraint l.constraint;
}

-- ---- and normalized
zeros-all : (zs : List ℤ) → ((i : ℕ) → get_or zs i (pos 0) ≡ pos 0) → T (all is_zero zs)
unfolding all
zeros-all [] h = tt
zeros-all (z ∷ zs) h = yes_and (is_zero z) (all is_zero zs) (yes-zero (h 0)) (zeros-all zs (λ i. h (suc i)))

reduced-by : (c : Constraint) → T (not (all is_zero c.coefficients)) → DividedBy c (reduced c)
unfolding reduced coefficient
reduced-by c n =
    let cs = c.bound ∷ c.coefficients in
    let g = gcd_all cs in
    record {
      by = g;
      positive = gcd_all-proper c.bound c.coefficients n;
      strict = refl;
      coefficients = λ i. ap (λ (z : ℤ). pos g *ℤ z) (get_or-quotients g c.coefficients i)
          ∙ *-quot g (get_or c.coefficients i (pos 0)) (gcd_all-dvd cs (suc i));
      bound = *-quot g c.bound (gcd_all-dvd cs 0);
      whole = reduced-divided c n;
    }

-- of a constraint: true, false, or another
abbrev pub SettlesTo : Constraint → Settled → Type 0
SettlesTo c always = Constant c × Rel c.strict (pos 0) c.bound
SettlesTo c never = Settles (some c) none
SettlesTo c (kept d) = Settles (some c) (some d)

pub settled_is : (c : Constraint) → SettlesTo c (settled c)
unfolding coefficient
settled_is c =
    settled-cases (SettlesTo c) c
    (λ z r. ((λ i. get_or-zero c.coefficients i z), related-yes c.strict (pos 0) c.bound r))
    (λ z r. ((λ i. get_or-zero c.coefficients i z), λ h. clash (related c.strict (pos 0) c.bound) (yes-related h) r))
    (λ z. ((λ h. clash (all is_zero c.coefficients) (zeros-all c.coefficients h) z), reduced-by c z))

settled-normalizes : (l : Line) (c : Constraint) → l.constraint ≡ some c → (Common l.positive l.negative → ⊥)
    → (s : Settled) → SettlesTo c s → Normalizes l (settled_line l s)
unfolding settled_line
settled-normalizes l c e free always h = inr (c, e, h.0, h.1)
settled-normalizes l c e free never h = (free, refl, refl, rw e h)
settled-normalizes l c e free (kept d) h = (free, refl, refl, rw e h)

line-normalizes : (l : Line) → Normalizes l (normal_line l)
line-normalizes l =
    line-ends (Normalizes l) l (λ h. inl (member-meet l.positive l.negative h))
    (λ n e. (apart n, refl, refl, rw e refl)) (λ n c e. settled-normalizes l c e (apart n) (settled c) (settled_is c))
  where
    apart : T (not (meet l.positive l.negative)) → Common l.positive l.negative → ⊥
    apart n c = clash (meet l.positive l.negative) (meet-member l.positive l.negative c.member c.left c.right) n

pub resolve-is : (v : Variable) (u l : Line) → IsResolvent v u l (resolve v u l)
unfolding resolve
resolve-is v u l =
    record { combined = resolvent v u l; combines = resolvent-combines v u l; normalizes = line-normalizes (resolvent v u l) }
