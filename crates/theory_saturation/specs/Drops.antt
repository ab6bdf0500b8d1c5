-- What an earlier line drops: in words, and that it covers what it drops. A line drops itself.
use Rattle.std.specs.Prelude.{◌≡◌, refl, Bool, true, false, not, ◌&&◌, ◌||◌, ◌↔◌, ◌⊎◌, List, ℕ, ℤ, pos, ◌*ℤ◌, ◌<ℤ◌, T, get_or}
use Rattle.std.proofs.Common.{subst, inl, inr, ⊎_elim}
use Rattle.std.proofs.Math.Option.{Option, none, some}
use Rattle.std.specs.Int.Signed.{lt_z}
use Rattle.std.proofs.Math.Facts.{and_yes, yes_and, or_yes}
use Rattle.rules.specs.Lists.{same}
use Rattle.rules.specs.Arithmetic.{equal, sum, is_positive, is_negative}
use Rattle.rules.specs.Problem.{Constraint}
use Rattle.rules.specs.Meaning.{Assignment, constraint_holds}
use Rattle.rules.specs.Lines.{Line, Variable, rational, boolean, subset, some_yes, the_constraint_holds, coefficient}
use Rattle.rules.specs.Lines.{positively, negatively, contains}
use Rattle.rules.specs.Steps.{Step}
use Rattle.rules.specs.Elimination.{as_tight, drops, covered}
use Rattle.theory_lists.specs.Tests.{or_l, or_r, or_map}
use Rattle.theory_lists.specs.All.{Any, any-yes, yes-any}
use Rattle.theory_lists.specs.Equal.{same-yes, yes-same}
use Rattle.theory_integers.specs.Natural.{pos-mono-<}
use Rattle.theory_vectors.specs.Sign.{equal-yes, equal-refl, yes-equal}
use Rattle.theory_vectors.specs.Relation.{Rel, rel-trans, rel-*ʳ, rel-orʳ, rel-strict, rel-weaken}
use Rattle.theory_vectors.specs.Constraint.{constraint-yes, yes-constraint}
use Rattle.theory_resolution.specs.Members.{has, subset-member, member-subset, yes-member, member-yes}
use Rattle.theory_resolution.specs.Holds.{line-map, literals-map}
use Rattle.theory_saturation.specs.Covered.{Covers}

abbrev pub Drops : Line → Line → Type 0
Drops j r = T (drops j r)

-- ---- what dropping is
-- "equal coefficients with a bound that is smaller, or equal under a relation at least as strict"
pub record AsTight (c d : Constraint) : Type 0 where
  pub coefficients : c.coefficients ≡ d.coefficients
  pub bound : (c.bound <ℤ d.bound) ⊎ ((c.bound ≡ d.bound) × (T d.strict → T c.strict))

-- "either no condition, or" such a one; what has a constraint never drops what has none
abbrev pub NoneOrAsTight : Option Constraint → Option Constraint → Type 0
NoneOrAsTight none d = Unit {0}
NoneOrAsTight (some c) none = ⊥
NoneOrAsTight (some c) (some d) = AsTight c d

-- "an earlier line has a subset of its literals in each sign and" such a constraint
pub record Subsumes (earlier l : Line) : Type 0 where
  pub positive : (i : ℕ) → T (has earlier.positive i) → T (has l.positive i)
  pub negative : (i : ℕ) → T (has earlier.negative i) → T (has l.negative i)
  pub constraint : NoneOrAsTight earlier.constraint l.constraint

-- ---- the tests decide it
stricter : (s t : Bool) → T (s || not t) ↔ (T t → T s)
stricter true t = ((λ h k. tt), λ f. tt)
stricter false true = ((λ h k. h), λ f. f tt)
stricter false false = ((λ h k. k), λ f. tt)

tight-exactly : (c d : Constraint)
    → T (same equal c.coefficients d.coefficients
    && (lt_z c.bound d.bound || equal c.bound d.bound && (c.strict || not d.strict))) ↔ AsTight c d
tight-exactly c d =
    let row = same equal c.coefficients d.coefficients in
    let less = lt_z c.bound d.bound in
    let equals = equal c.bound d.bound in
    let strict = c.strict || not d.strict in (
      λ t. let a = and_yes row (less || equals && strict) t in
          record {
            coefficients = same-yes equal equal-yes c.coefficients d.coefficients a.0;
            bound = ⊎_elim (λ h. inl (record { lt = h }))
                (λ h. let b = and_yes equals strict h in
                inr (equal-yes c.bound d.bound b.0, (stricter c.strict d.strict).0 b.1))
                (or_yes less (equals && strict) a.1);
          },
      λ k. yes_and row (less || equals && strict) (yes-same equal equal-refl c.coefficients d.coefficients k.coefficients)
          (⊎_elim (λ h. or_l less (equals && strict) h.lt)
          (λ h. or_r less (equals && strict) (yes_and equals strict (yes-equal h.0) ((stricter c.strict d.strict).1 h.1)))
          k.bound),
    )

constraint-exactly : (k h : Option Constraint) → T (as_tight k h) ↔ NoneOrAsTight k h
unfolding as_tight
constraint-exactly none h = ((λ t. tt), λ t. tt)
constraint-exactly (some c) none = ((λ t. t), λ t. t)
constraint-exactly (some c) (some d) = tight-exactly c d

pub drops-exactly : (j r : Line) → Drops j r ↔ Subsumes j r
unfolding drops
drops-exactly j r =
    let p = subset j.positive r.positive in
    let n = subset j.negative r.negative in
    let k = as_tight j.constraint r.constraint in (
      λ t. let a = and_yes (p && n) k t in let b = and_yes p n a.0 in
          record {
            positive = subset-member j.positive r.positive b.0;
            negative = subset-member j.negative r.negative b.1;
            constraint = (constraint-exactly j.constraint r.constraint).0 a.1;
          },
      λ s. yes_and (p && n) k
          (yes_and p n (member-subset j.positive r.positive s.positive) (member-subset j.negative r.negative s.negative))
          ((constraint-exactly j.constraint r.constraint).1 s.constraint),
    )

-- ---- it covers
-- a constraint that is as tight holds at no more points
module _ (c d : Constraint) (tight : AsTight c d) (χ : Assignment) (z : pos 0 <ℤ pos χ.denominator) where
  abbrev D : ℤ
  D = pos χ.denominator

  relation : (s t : Bool) → (T t → T s) → {a b : ℤ} → Rel s a b → Rel t a b
  relation s false f r = rel-weaken r
  relation true true f r = r
  relation false true f r = absurd (f tt)

  bound-holds : {a : ℤ} → Rel c.strict a (c.bound *ℤ D) → Rel d.strict a (d.bound *ℤ D)
  bound-holds {a} r =
      ⊎_elim
      (λ (h : c.bound <ℤ d.bound). rel-strict (rel-orʳ c.strict true (rel-trans r (rel-*ʳ z (record { by = h })))))
      (λ (h : (c.bound ≡ d.bound) × (T d.strict → T c.strict)).
      relation c.strict d.strict h.1 (subst (λ (b : ℤ). Rel c.strict a (b *ℤ D)) h.0 r))
      tight.bound

  tight-holds : T (constraint_holds χ c) → T (constraint_holds χ d)
  tight-holds k = yes-constraint χ d (bound-holds
      (subst (λ (cs : List ℤ). Rel c.strict (sum cs χ.numerators) (c.bound *ℤ D)) tight.coefficients (constraint-yes χ c k)))

constraint-holds : (k h : Option Constraint) → NoneOrAsTight k h → (χ : Assignment) → pos 0 <ℤ pos χ.denominator
    → T (the_constraint_holds χ k) → T (the_constraint_holds χ h)
unfolding the_constraint_holds
constraint-holds none h t χ z k = absurd k
constraint-holds (some c) none t χ z k = absurd t
constraint-holds (some c) (some d) t χ z k = tight-holds c d t χ z k

-- it has no other variables
constraint-contains : (f : ℕ) (k h : Option Constraint) → NoneOrAsTight k h → (side : ℤ → Bool) → (T (side (pos 0)) → ⊥)
    → T (side (coefficient f k)) → T (side (coefficient f h))
unfolding coefficient
constraint-contains f none h t side e k = absurd (e k)
constraint-contains f (some c) none t side e k = absurd t
constraint-contains f (some c) (some d) t side e k = subst (λ (cs : List ℤ). T (side (get_or cs f (pos 0)))) t.coefficients k

only : (j r : Line) → Subsumes j r → (w : Variable) → T (contains w j) → T (contains w r)
unfolding contains positively negatively is_positive is_negative
only j r s (rational f) =
    let a = coefficient f j.constraint in
    let b = coefficient f r.constraint in
    or_map (is_positive a) (is_negative a) (is_positive b) (is_negative b)
    (constraint-contains f j.constraint r.constraint s.constraint is_positive (λ h. h))
    (constraint-contains f j.constraint r.constraint s.constraint is_negative (λ h. h))
only j r s (boolean i) =
    or_map (has j.positive i) (has j.negative i) (has r.positive i) (has r.negative i) (s.positive i) (s.negative i)

pub subsumes-covers : (j r : Line) → Subsumes j r → Covers j r
subsumes-covers j r s =
    record {
      only = only j r s;
      gives = λ χ z. line-map χ χ j r
          (literals-map χ χ j r (literal j.positive r.positive χ.booleans s.positive)
          (literal j.negative r.negative (λ i. not (χ.booleans i)) s.negative))
          (constraint-holds j.constraint r.constraint s.constraint χ (pos-mono-< z));
    }
  where
    literal : (p q : List Bool) (f : ℕ → Bool) → ((i : ℕ) → T (has p i) → T (has q i)) → T (some_yes p f) → T (some_yes q f)
    literal p q f h k = let y = yes-member p f k in member-yes q f y.member (h y.member y.belongs) y.yes

pub drops-covers : (j r : Line) → Drops j r → Covers j r
drops-covers j r t = subsumes-covers j r ((drops-exactly j r).0 t)

pub subsumes-self : (l : Line) → Subsumes l l
subsumes-self l = record { positive = λ i h. h; negative = λ i h. h; constraint = itself l.constraint }
  where
    itself : (k : Option Constraint) → NoneOrAsTight k k
    itself none = tt
    itself (some c) = record { coefficients = refl; bound = inr (refl, λ h. h) }

pub drops-self : (l : Line) → Drops l l
drops-self l = (drops-exactly l l).1 (subsumes-self l)

-- ---- one of some lines drops it
pub covered-exactly : (r : Line) (steps : List Step) → T (covered r steps) ↔ Any (λ s. Drops s.line r) steps
unfolding covered
covered-exactly r steps = (any-yes (λ s. drops s.line r) steps, yes-any (λ s. drops s.line r) steps)
