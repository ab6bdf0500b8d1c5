-- Normalizing one constraint keeps its meaning: always true, never true, or divided by the common divisor.
use Rattle.std.specs.Prelude.{not, ◌↔◌, ◌<◌, pos, T}
use Rattle.std.proofs.Common.{⊎_elim}
use Rattle.theory_integers.specs.Natural.{pos-mono-<}
use Rattle.theory_lists.specs.Tests.{split, is_true, is_false, clash}
use Rattle.rules.specs.Lists.{all}
use Rattle.rules.specs.Arithmetic.{related, is_zero}
use Rattle.rules.specs.Problem.{Constraint}
use Rattle.rules.specs.Meaning.{Assignment, constraint_holds}
use Rattle.rules.specs.Normalize.{Settled, always, never, kept, settled, reduced}
use Rattle.theory_vectors.specs.Relation.{related-yes, yes-related}
use Rattle.theory_vectors.specs.Constraint.{constraint-yes, yes-constraint, constant-holds, reduce-holds}

-- the three ends of a constraint, for any claim of them
pub settled-cases : (P : Settled → Type 0) (c : Constraint)
    → (T (all is_zero c.coefficients) → T (related c.strict (pos 0) c.bound) → P always)
    → (T (all is_zero c.coefficients) → T (not (related c.strict (pos 0) c.bound)) → P never)
    → (T (not (all is_zero c.coefficients)) → P (kept (reduced c))) → P (settled c)
unfolding settled
settled-cases P c a n k =
    let Z = all is_zero c.coefficients in
    let R = related c.strict (pos 0) c.bound in
    ⊎_elim (λ z. ⊎_elim (λ r. rw (is_true Z z, settled, is_true R r) (a z r)) (λ r. rw (is_true Z z, settled, is_false R r) (n z r))
    (split R)) (λ z. rw (is_false Z z, settled) (k z)) (split Z)

abbrev pub SettledHolds : Assignment → Settled → Type 0
SettledHolds χ always = Unit {0}
SettledHolds χ never = ⊥
SettledHolds χ (kept c) = T (constraint_holds χ c)

module _ (χ : Assignment) (d : 0 < χ.denominator) (c : Constraint) where
  constant : T (all is_zero c.coefficients) → T (constraint_holds χ c) ↔ T (related c.strict (pos 0) c.bound)
  constant z =
      let r = constant-holds {s = c.strict} c.coefficients c.bound χ.numerators (pos χ.denominator) z (pos-mono-< d) in
      (λ h. yes-related (r.0 (constraint-yes χ c h)), λ h. yes-constraint χ c (r.1 (related-yes c.strict (pos 0) c.bound h)))

  divided : T (not (all is_zero c.coefficients)) → T (constraint_holds χ c) ↔ T (constraint_holds χ (reduced c))
  unfolding reduced
  divided z =
      let r = reduce-holds {s = c.strict} c.coefficients c.bound χ.numerators (pos χ.denominator) z in
      (λ h. yes-constraint χ (reduced c) (r.0 (constraint-yes χ c h)), λ h. yes-constraint χ c (r.1 (constraint-yes χ (reduced c) h)))

  pub settled-holds : T (constraint_holds χ c) ↔ SettledHolds χ (settled c)
  settled-holds =
      settled-cases (λ s. T (constraint_holds χ c) ↔ SettledHolds χ s) c (λ z r. (λ h. tt, λ h. (constant z).1 r))
      (λ z r. (λ h. clash (related c.strict (pos 0) c.bound) ((constant z).0 h) r, λ h. absurd h)) divided
