-- The form of lines: 32 places for each sign and 8 coefficients. A resolvent keeps it, and has no Boolean variable in both signs.
use Rattle.std.specs.Prelude.{◌≡◌, ◌∷◌, ℕ, pos, nat_abs, length}
use Rattle.std.proofs.Common.{◌∙◌, subst, arith}
use Rattle.std.proofs.Math.Option.{Option, none, some}
use Rattle.rules_types.specs.Limits as limit
use Rattle.rules.specs.Arithmetic.{gcd_all}
use Rattle.rules.specs.Problem.{Constraint}
use Rattle.rules.specs.Lines.{Line, Variable, rational, boolean, union, coefficient}
use Rattle.rules.specs.Normalize.{settled, settled_line, reduced, normal_line}
use Rattle.rules.specs.Resolve.{combination, combination_of, one_of, resolvent, resolve}
use Rattle.theory_vectors.specs.Dot.{length-combine}
use Rattle.theory_vectors.specs.Constraint.{length-quotients}
use Rattle.theory_resolution.specs.Members.{length_union, length-excluding}
use Rattle.theory_lists.specs.Dropped.{DroppedOr}
use Rattle.theory_resolution.specs.Holds.{Consistent}
use Rattle.theory_resolution.specs.Settled.{settled-cases}
use Rattle.theory_resolution.specs.NormalLine.{having, line-ends, normal-line-consistent}

abbrev pub Eight : Option Constraint → Type 0
Eight none = Unit {0}
Eight (some c) = length c.coefficients ≡ limit.rationals

pub record Formed (l : Line) : Type 0 where
  pub positive : length l.positive ≡ limit.all_booleans
  pub negative : length l.negative ≡ limit.all_booleans
  pub constraint : Eight l.constraint

-- ---- normalizing
pub length-reduced : (c : Constraint) → length (reduced c).coefficients ≡ length c.coefficients
unfolding reduced
length-reduced c = length-quotients (gcd_all (c.bound ∷ c.coefficients)) c.coefficients

having-formed : (l : Line) (o : Option Constraint) → Formed l → Eight o → Formed (having l o)
having-formed l o f e = record { positive = f.positive; negative = f.negative; constraint = e }

settled-formed : (l : Line) (c : Constraint) → Formed l → Eight (some c) → DroppedOr Formed (settled_line l (settled c))
unfolding settled_line
settled-formed l c f e = settled-cases (λ s. DroppedOr Formed (settled_line l s)) c (λ z r. tt) (λ z r. having-formed l none f tt)
    (λ z. having-formed l (some (reduced c)) f (length-reduced c ∙ e))

pub normal-line-formed : (l : Line) → Formed l → DroppedOr Formed (normal_line l)
normal-line-formed l f = line-ends (DroppedOr Formed) l (λ h. tt) (λ n e. f) (λ n c e. settled-formed l c f (subst Eight e f.constraint))

-- ---- a resolvent
combination-eight : (f : ℕ) (u l : Option Constraint) → Eight u → Eight l → Eight (combination_of f u l)
unfolding combination_of combination
combination-eight f none l h k = tt
combination-eight f (some u) none h k = tt
combination-eight f (some u) (some l) h k =
    omega (arith, length-combine (pos (nat_abs (coefficient f (some l)))) u.coefficients (coefficient f (some u)) l.coefficients)

one-eight : (u l : Option Constraint) → Eight u → Eight l → Eight (one_of u l)
unfolding one_of
one-eight none l h k = k
one-eight (some u) l h k = h

pub resolvent-formed : (v : Variable) (u l : Line) → Formed u → Formed l → Formed (resolvent v u l)
unfolding resolvent
resolvent-formed (rational f) u l h k =
    record {
      positive = omega (arith, length_union u.positive l.positive, h.positive, k.positive);
      negative = omega (arith, length_union u.negative l.negative, h.negative, k.negative);
      constraint = combination-eight f u.constraint l.constraint h.constraint k.constraint;
    }
resolvent-formed (boolean i) u l h k =
    record {
      positive = omega (
        arith,
        length-excluding i (union u.positive l.positive),
        length_union u.positive l.positive,
        h.positive,
        k.positive,
      );
      negative = omega (
        arith,
        length-excluding i (union u.negative l.negative),
        length_union u.negative l.negative,
        h.negative,
        k.negative,
      );
      constraint = one-eight u.constraint l.constraint h.constraint k.constraint;
    }

pub resolve-formed : (v : Variable) (u l : Line) → Formed u → Formed l → DroppedOr Formed (resolve v u l)
unfolding resolve
resolve-formed v u l h k = normal-line-formed (resolvent v u l) (resolvent-formed v u l h k)

pub resolve-consistent : (v : Variable) (u l : Line) → DroppedOr Consistent (resolve v u l)
unfolding resolve
resolve-consistent v u l = normal-line-consistent (resolvent v u l)
