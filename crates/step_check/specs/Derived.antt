-- The resolvent that a step's bytes name, by its origin.
use Rattle.std.proofs.Math.Path.{◌≡◌, refl, ap}
use Rattle.std.proofs.Common.{◌∙◌, arith, eqb→eq}
use Rattle.std.specs.Prelude.{Bool, true, false, ◌&&◌, List, [], ◌∷◌, ℕ, eqb}
use Rattle.std.proofs.Math.Bool.{cond}
use Rattle.std.proofs.Math.Option.{Option, none, some}
use Rattle.std.proofs.Math.ListN.{get_elem?}
use Rattle.rules.specs.Lines.{Line, Variable, rational, boolean, positively, negatively}
use Rattle.rules.specs.Resolve.{resolve}
use Rattle.rules.specs.Steps.{Header, Step, resolved, header}
use Rattle.rules.specs.Elimination.{overflows}
use Rattle.rules.specs.Checker.{derived, pairable, variable_named, resolvent_named, line_among}
use Rattle.steps.specs.declared.origin.Origin.{Origin}
use Rattle.steps.specs.Origin.{header_of, origin_at}
use Rattle.theory_lists.specs.Tests.{of-true}
use Rattle.step_check.specs.Stated.{matched, among_one}

-- "neither wide nor dropped by tidying"
unfoldable pub narrow : Option Line → Option Line
narrow none = none
narrow (some m) = cond (overflows m) none (some m)

-- ---- by a variable
-- "first parent positive; by a mark at most one parent has a condition"
unfoldable pub suited : Variable → Line → Line → Bool
suited v u l = positively v u && negatively v l && pairable v u l

module _ (v : Variable) (u l : Line) where
  pub derived-yes : suited v u l ≡ true → derived v (some u) (some l) ≡ narrow (resolve v u l)
  unfolding suited derived narrow
  derived-yes e = rw (e, derived) (by (resolve v u l))
    where
      by : (o : Option Line) → elim o [ none ↦ none | some m ↦ cond (overflows m) none (some m) ] ≡ narrow o
      by none = refl
      by (some m) = refl

  pub derived-no : suited v u l ≡ false → derived v (some u) (some l) ≡ none
  unfolding suited derived
  derived-no e = rw (e, derived)

  -- test by test
  pub suited-upper : positively v u ≡ false → suited v u l ≡ false
  unfolding suited
  suited-upper a = rw a

  module _ (a : positively v u ≡ true) where
    pub suited-lower : negatively v l ≡ false → suited v u l ≡ false
    unfolding suited
    suited-lower b = rw (a, b)

    pub suited-pair : negatively v l ≡ true → suited v u l ≡ pairable v u l
    unfolding suited
    suited-pair b = rw (a, b)

pub derived-alone : (v : Variable) (o : Option Line) → derived v o none ≡ none
unfolding derived
derived-alone v none = refl
derived-alone v (some u) = refl

pub derived-absent : (v : Variable) (o : Option Line) → derived v none o ≡ none
unfolding derived
derived-absent v o = refl

-- ---- by the variable that an origin names
unfoldable pub derived_by : Origin → Option Line → Option Line → Option Line
derived_by o u l = elim (variable_named o.how o.which) [ none ↦ none | some v ↦ derived v u l ]

module _ (o : Origin) where
  pub by-rational : o.how ≡ 1 → (u l : Option Line) → derived_by o u l ≡ derived (rational o.which) u l
  unfolding derived_by variable_named
  by-rational e u l = rw e

  pub by-boolean : o.how ≡ 2 → (u l : Option Line) → derived_by o u l ≡ derived (boolean o.which) u l
  unfolding derived_by variable_named
  by-boolean e u l = rw e

  pub by-none : eqb o.how 1 ≡ false → eqb o.how 2 ≡ false → (u l : Option Line) → derived_by o u l ≡ none
  unfolding derived_by variable_named
  by-none a b u l = rw (a, b, derived_by, variable_named)

  -- whatever it is, of two parents
  pub by-neither : (u l : Option Line) → ((v : Variable) → derived v u l ≡ none) → derived_by o u l ≡ none
  unfolding derived_by
  by-neither u l h = by (variable_named o.how o.which)
    where
      by : (o : Option Variable) → ◌≡◌ {A = Option Line} (elim o [ none ↦ none | some v ↦ derived v u l ]) none
      by none = refl
      by (some v) = h v

-- ---- the step that they name, and its bytes
unfoldable pub resolvent_stated : List Line → List ℕ → Option Line
resolvent_stated earlier bytes = elim (resolvent_named earlier bytes) [ none ↦ none | some s ↦ line_among (s ∷ []) bytes ]

named-header : (o : Origin) (v : Variable) → variable_named o.how o.which ≡ some v
    → header (resolved v o.first o.second) ≡ header_of o
unfolding variable_named header
named-header o v e = by (eqb o.how 1) (eqb o.how 2) refl refl e
  where
    by : (a b : Bool) → eqb o.how 1 ≡ a → eqb o.how 2 ≡ b
        → cond a (some (rational o.which)) (cond b (some (boolean o.which)) none) ≡ some v
        → header (resolved v o.first o.second) ≡ header_of o
    by true b x y e =
        let i : v ≡ rational o.which = cc in
        let n : o.how ≡ 1 = eqb→eq o.how 1 (of-true (eqb o.how 1) x) in
        rw (i, n)
    by false true x y e =
        let i : v ≡ boolean o.which = cc in
        let n : o.how ≡ 2 = eqb→eq o.how 2 (of-true (eqb o.how 2) y) in
        rw (i, n)
    by false false x y e = let z : ◌≡◌ {A = ℕ} 0 1 = cc in absurd (omega arith)

module _ (earlier : List Line) (bytes : List ℕ) where
  by-line : (h : Header) (v : Variable) (first second : ℕ) → header (resolved v first second) ≡ h → (o : Option Line)
      → elim (elim o as (λ o. Option Step) [ none ↦ none | some l ↦ some (record { origin = resolved v first second; line = l }) ])
      [ none ↦ none | some s ↦ line_among (s ∷ []) bytes ] ≡ matched h bytes o
  unfolding matched
  by-line h v first second e none = refl
  by-line h v first second e (some l) = among_one (record { origin = resolved v first second; line = l }) bytes
      ∙ ap (λ (h : Header). matched h bytes (some l)) e

  pub resolvent-is : let o = origin_at bytes 0 in resolvent_stated earlier bytes
      ≡ matched (header_of o) bytes (derived_by o (get_elem? earlier o.first) (get_elem? earlier o.second))
  unfolding resolvent_stated resolvent_named derived_by matched
  resolvent-is = by (variable_named o.how o.which) refl
    where
      o : Origin
      o = origin_at bytes 0

      by : (w : Option Variable) → variable_named o.how o.which ≡ w → resolvent_stated earlier bytes
          ≡ matched (header_of o) bytes (derived_by o (get_elem? earlier o.first) (get_elem? earlier o.second))
      by none e = rw (e, resolvent_stated, resolvent_named, derived_by)
      by (some v) e = rw (e, resolvent_stated, resolvent_named, derived_by) (by-line (header_of o) v o.first o.second (named-header o v e)
          (derived v (get_elem? earlier o.first) (get_elem? earlier o.second)))
