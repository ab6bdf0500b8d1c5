-- Normalizing a line keeps its meaning, and leaves no Boolean variable in both signs.
use Rattle.std.specs.Prelude.{◌≡◌, refl, Bool, ◌↔◌, ◌<◌, T}
use Rattle.std.proofs.Common.{sym, subst, ⊎_elim}
use Rattle.std.proofs.Math.Option.{Option, none, some}
use Rattle.theory_lists.specs.Tests.{split, is_true, is_false}
use Rattle.rules.specs.Problem.{Constraint}
use Rattle.rules.specs.Meaning.{Assignment, constraint_holds}
use Rattle.rules.specs.Lines.{Line, meet, a_literal_holds, the_constraint_holds, line_holds}
use Rattle.rules.specs.Normalize.{Settled, always, never, kept, settled, settled_line, normal_line}
use Rattle.theory_lists.specs.Dropped.{DroppedOr}
use Rattle.theory_resolution.specs.Holds.{Consistent, line-map, by-literal, by-constraint, by-positive, by-negative, both-signs}
use Rattle.theory_resolution.specs.Settled.{SettledHolds, settled-holds}

-- a line with another constraint
abbrev pub having : Line → Option Constraint → Line
having l o = record { positive = l.positive; negative = l.negative; constraint = o }

-- the ends of a line, for any claim of them
pub line-ends : (P : Option Line → Type 0) (l : Line) → (T (meet l.positive l.negative) → P none)
    → (Consistent l → l.constraint ≡ none → P (some l))
    → (Consistent l → (c : Constraint) → l.constraint ≡ some c → P (settled_line l (settled c))) → P (normal_line l)
unfolding normal_line
line-ends P l m n s = ⊎_elim (λ h. rw (is_true M h, normal_line) (m h)) (by l.constraint refl) (split M)
  where
    M : Bool
    M = meet l.positive l.negative

    by : (o : Option Constraint) → l.constraint ≡ o → Consistent l → P (normal_line l)
    by none e h = rw (is_false M h, normal_line, e) (n h e)
    by (some c) e h = rw (is_false M h, normal_line, e) (s h c e)

-- ---- its meaning
pub having-holds : (χ : Assignment) (l : Line) (o : Option Constraint) → T (the_constraint_holds χ l.constraint)
    ↔ T (the_constraint_holds χ o)
    → T (line_holds χ l) ↔ T (line_holds χ (having l o))
unfolding a_literal_holds
having-holds χ l o e = (line-map χ χ l (having l o) (λ h. h) e.0, line-map χ χ (having l o) l (λ h. h) e.1)

settled-line : (χ : Assignment) (l : Line) (s : Settled) → T (the_constraint_holds χ l.constraint) ↔ SettledHolds χ s
    → T (line_holds χ l) ↔ DroppedOr (λ m. T (line_holds χ m)) (settled_line l s)
unfolding settled_line the_constraint_holds
settled-line χ l always e = (λ h. tt, λ h. by-constraint χ l (e.1 tt))
settled-line χ l never e = having-holds χ l none e
settled-line χ l (kept d) e = having-holds χ l (some d) e

with-constraint : (χ : Assignment) (o : Option Constraint) (c : Constraint) {X : Type 0} → o ≡ some c → T (constraint_holds χ c) ↔ X
    → T (the_constraint_holds χ o) ↔ X
unfolding the_constraint_holds
with-constraint χ o c {X} e h = subst (λ (o : Option Constraint). T (the_constraint_holds χ o) ↔ X) (sym e) h

pub normal-line-holds : (χ : Assignment) → 0 < χ.denominator → (l : Line) → T (line_holds χ l)
    ↔ DroppedOr (λ m. T (line_holds χ m)) (normal_line l)
normal-line-holds χ d l =
    line-ends (λ o. T (line_holds χ l) ↔ DroppedOr (λ m. T (line_holds χ m)) o) l
    (λ h. (λ k. tt, λ k. by-literal χ l (⊎_elim (by-positive χ l) (by-negative χ l) (both-signs χ l.positive l.negative h))))
    (λ n e. (λ h. h, λ h. h))
    (λ n c e. settled-line χ l (settled c) (with-constraint χ l.constraint c e (settled-holds χ d c)))

-- ---- its form
settled-consistent : (l : Line) (s : Settled) → Consistent l → DroppedOr Consistent (settled_line l s)
unfolding settled_line
settled-consistent l always n = tt
settled-consistent l never n = n
settled-consistent l (kept d) n = n

pub normal-line-consistent : (l : Line) → DroppedOr Consistent (normal_line l)
normal-line-consistent l = line-ends (DroppedOr Consistent) l (λ h. tt) (λ n e. n) (λ n c e. settled-consistent l (settled c) n)
