-- A step is sound: where its parents hold, a resolvent is dropped or holds.
use Rattle.std.specs.Prelude.{◌≡◌, Bool, not, ◌||◌, ◌&&◌, ℕ, ◌<◌, pos, T}
use Rattle.std.proofs.Math.Bool.{not-not}
use Rattle.std.proofs.Common.{⊎_elim}
use Rattle.std.proofs.Math.Option.{Option, none, some}
use Rattle.std.proofs.Math.Dec.{not_T}
use Rattle.theory_lists.specs.Tests.{split, clash, or_l, or_r, and-noˡ, and-noʳ}
use Rattle.rules.specs.Arithmetic.{is_positive, is_negative}
use Rattle.rules.specs.Problem.{Constraint}
use Rattle.rules.specs.Meaning.{Assignment}
use Rattle.rules.specs.Lines.{Line, Variable, rational, boolean, excluding, meet, a_literal_holds, the_constraint_holds, line_holds}
use Rattle.rules.specs.Lines.{coefficient}
use Rattle.rules.specs.Lines.{positively, negatively, no_constraint}
use Rattle.rules.specs.Resolve.{combination, combination_of, one_of, resolvent, resolve}
use Rattle.rules.specs.Values.{without_boolean}
use Rattle.rules.specs.Checker.{pairable}
use Rattle.theory_vectors.specs.Constraint.{constraint-yes, yes-constraint}
use Rattle.theory_vectors.specs.Combination.{combination-holds}
use Rattle.theory_resolution.specs.Members.{has, unions-yes, yes-else, excluding-union, meet-member}
use Rattle.theory_lists.specs.Dropped.{DroppedOr}
use Rattle.theory_resolution.specs.Holds.{Consistent, line-cases, by-literal, literals-map, line-map, no-constraint}
use Rattle.theory_resolution.specs.NormalLine.{normal-line-holds}

-- what a step by a Boolean variable needs of its parents, and a step by a rational one does not
abbrev pub Resolvable : Variable → Line → Line → Type 0
Resolvable (rational f) u l = Unit {0}
Resolvable (boolean i) u l = Consistent u × Consistent l × T (pairable (boolean i) u l)

-- ---- literals: a resolvent has those of its parents, without the variable's own
-- a line without the variable's literals; a rational variable has none
abbrev pub without_literal : Variable → Line → Line
without_literal (rational f) l = l
without_literal (boolean i) l = without_boolean i l

pub resolvent-literals : (χ : Assignment) (v : Variable) (u l : Line)
    → a_literal_holds χ (resolvent v u l) ≡ a_literal_holds χ (without_literal v u) || a_literal_holds χ (without_literal v l)
unfolding a_literal_holds resolvent without_boolean
resolvent-literals χ (rational f) u l =
    unions-yes u.positive l.positive u.negative l.negative χ.booleans (λ j. not (χ.booleans j))
resolvent-literals χ (boolean i) u l =
    rw (excluding-union i u.positive l.positive, excluding-union i u.negative l.negative)
    (unions-yes (excluding i u.positive) (excluding i l.positive) (excluding i u.negative) (excluding i l.negative)
    χ.booleans (λ j. not (χ.booleans j)))

-- where the variable's own literal fails, another one holds
abbrev Idle : Assignment → Variable → Line → Type 0
Idle χ (rational f) l = Unit {0}
Idle χ (boolean i) l = T (not (has l.positive i && χ.booleans i)) × T (not (has l.negative i && not (χ.booleans i)))

another-literal : (χ : Assignment) (v : Variable) (l : Line) → Idle χ v l → T (a_literal_holds χ l)
    → T (a_literal_holds χ (without_literal v l))
unfolding without_boolean
another-literal χ (rational f) l n h = h
another-literal χ (boolean i) l n h =
    literals-map χ χ l (without_boolean i l) (yes-else i l.positive χ.booleans n.0)
    (yes-else i l.negative (λ j. not (χ.booleans j)) n.1) h

module _ (χ : Assignment) (u l : Line) (v : Variable) where
  abbrev U : Bool
  U = a_literal_holds χ (without_literal v u)

  abbrev L : Bool
  L = a_literal_holds χ (without_literal v l)

  upper-literal : Idle χ v u → T (a_literal_holds χ u) → T (a_literal_holds χ (resolvent v u l))
  upper-literal n h = rw (resolvent-literals χ v u l) (or_l U L (another-literal χ v u n h))

  lower-literal : Idle χ v l → T (a_literal_holds χ l) → T (a_literal_holds χ (resolvent v u l))
  lower-literal n h = rw (resolvent-literals χ v u l) (or_r U L (another-literal χ v l n h))

-- ---- constraints
combined-constraint : (χ : Assignment) (f : ℕ) (u l : Option Constraint) → T (is_positive (coefficient f u))
    → T (is_negative (coefficient f l))
    → T (the_constraint_holds χ u) → T (the_constraint_holds χ l) → T (the_constraint_holds χ (combination_of f u l))
unfolding coefficient the_constraint_holds combination_of combination
combined-constraint χ f none l p n h k = absurd h
combined-constraint χ f (some u) none p n h k = absurd k
combined-constraint χ f (some u) (some l) p n h k =
    yes-constraint χ (combination f u l)
    (combination-holds f u.coefficients u.bound l.coefficients l.bound χ.numerators (pos χ.denominator) p n
    (constraint-yes χ u h) (constraint-yes χ l k))

one-upper : (χ : Assignment) (u l : Option Constraint) → T (the_constraint_holds χ u) → T (the_constraint_holds χ (one_of u l))
unfolding one_of
one-upper χ none l h = absurd (no-constraint χ h)
one-upper χ (some u) l h = h

one_lower : (χ : Assignment) (u l : Option Constraint) → T (no_constraint u || no_constraint l) → T (the_constraint_holds χ l)
    → T (the_constraint_holds χ (one_of u l))
unfolding one_of no_constraint
one_lower χ none l a h = h
one_lower χ (some u) none a h = absurd (no-constraint χ h)
one_lower χ (some u) (some l) a h = absurd a

-- ---- the variable's own literal fails in one of the parents
module _ (χ : Assignment) (i : ℕ) (l : Line) (n : Consistent l) where
  idle-upper : T (not (χ.booleans i)) → T (positively (boolean i) l) → Idle χ (boolean i) l
  unfolding positively
  idle-upper z h = (
    and-noʳ (has l.positive i) (χ.booleans i) z,
    and-noˡ (has l.negative i) (not (χ.booleans i))
        (not_T (has l.negative i) (λ k. clash (meet l.positive l.negative) (meet-member l.positive l.negative i h k) n)),
  )

  idle-lower : T (χ.booleans i) → T (negatively (boolean i) l) → Idle χ (boolean i) l
  unfolding negatively
  idle-lower z h = (
    and-noˡ (has l.positive i) (χ.booleans i)
        (not_T (has l.positive i) (λ k. clash (meet l.positive l.negative) (meet-member l.positive l.negative i k h) n)),
    and-noʳ (has l.negative i) (not (χ.booleans i)) (rw (not-not (χ.booleans i)) z),
  )

-- ---- both kinds
pub resolvent-holds : (χ : Assignment) (v : Variable) (u l : Line) → Resolvable v u l → T (positively v u) → T (negatively v l)
    → T (line_holds χ u) → T (line_holds χ l)
    → T (line_holds χ (resolvent v u l))
unfolding resolvent positively negatively pairable
resolvent-holds χ (rational f) u l r p n h k =
    let m = resolvent (rational f) u l in
    ⊎_elim (λ s. by-literal χ m (upper-literal χ u l (rational f) tt s))
    (λ s. line-map χ χ l m (lower-literal χ u l (rational f) tt)
    (combined-constraint χ f u.constraint l.constraint p n s) k) (line-cases χ u h)
resolvent-holds χ (boolean i) u l r p n h k =
    let m = resolvent (boolean i) u l in
    ⊎_elim (λ y. line-map χ χ l m (lower-literal χ u l (boolean i) (idle-lower χ i l r.1 y n))
    (one_lower χ u.constraint l.constraint r.2) k)
    (λ y. line-map χ χ u m (upper-literal χ u l (boolean i) (idle-upper χ i u r.0 y p)) (one-upper χ u.constraint l.constraint)
    h) (split (χ.booleans i))

pub resolve-holds : (χ : Assignment) → 0 < χ.denominator → (v : Variable) (u l : Line) → Resolvable v u l
    → T (positively v u) → T (negatively v l)
    → T (line_holds χ u) → T (line_holds χ l) → DroppedOr (λ m. T (line_holds χ m)) (resolve v u l)
unfolding resolve
resolve-holds χ d v u l r p n h k = (normal-line-holds χ d (resolvent v u l)).0 (resolvent-holds χ v u l r p n h k)
