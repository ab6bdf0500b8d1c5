-- A resolvent in machine words: what is made of it, and which lines have a variable or a constraint.
use Rattle.std.proofs.Math.Path.{◌≡◌, refl, sym}
use Rattle.std.proofs.Common.{ap, subst, ◌∙◌, arith}
use Rattle.std.specs.Prelude.{Bool, pos, length}
use Rattle.std.proofs.Math.Bool.{true, false, cond}
use Rattle.std.proofs.Math.Option.{Option, none, some}
use Prim.Native.Nat.{ℕ, zero, suc, ◌≤◌}
use Rattle.std.proofs.Math.Dec.{eqb, eqb-suc-zero}
use Rattle.std.proofs.Math.ListN.{get_or-eq_default}
use Rattle.rules_types.specs.Limits as limit
use Rattle.rules.specs.Arithmetic.{is_positive}
use Rattle.rules.specs.Lines as rules
use Rattle.rules.specs.Lines.{Variable, rational, boolean, positively, no_constraint}
use Rattle.rules.specs.Resolve.{resolve}
use Rattle.rules.specs.Elimination.{overflows}
use Rattle.rules.specs.Checker.{derived}
use Rattle.masks.specs.Mask.{bits, length-bits}
use Rattle.lines.specs.declared.line.Line.{Line}
use Rattle.lines.specs.Line.{constraint_of, meaning, Ready}
use Rattle.lines.specs.Forms.{coefficient-is}
use Rattle.resolvents.specs.declared.resolve.Status.TheVariants.{Dropped, Overflows, Made}
use Rattle.resolvents.specs.declared.resolve.Status.{Status}
use Rattle.resolvents.specs.declared.resolve.Resolved.{Resolved}
use Rattle.resolvents.specs.Resolved.{status_of, line_of, Gives}
use Rattle.step_check.specs.declared.compare.Stated.{Stated}
use Rattle.step_check.specs.Stated.{line_found, Holds}
use Rattle.step_check.specs.Derived.{suited, narrow, derived-yes, derived-no}

pub holds_same : {o p : Option rules.Line} {s : Stated} → o ≡ p → Holds p s → Holds o s
holds_same e h = record { line = h.line ∙ sym e; ready = h.ready }

-- ---- "neither wide nor dropped by tidying"
module _ (r : Resolved) where
  pub left-dropped : r.status ≡ Dropped → narrow (line_of r.status r.line) ≡ none
  unfolding narrow line_of
  left-dropped e = rw e

  module _ (g : Gives (line_of r.status r.line) r) where
    overflow-is : (o : Status) → r.status ≡ o → o ≡ status_of (line_of o r.line)
    overflow-is o e = sym e ∙ g.status ∙ ap (λ (o : Status). status_of (line_of o r.line)) e

    pub left-overflow : r.status ≡ Overflows → narrow (line_of r.status r.line) ≡ none
    unfolding narrow line_of status_of
    left-overflow e = rw e (by (overflows (meaning r.line)) (overflow-is Overflows e))
      where
        by : (b : Bool) → Overflows ≡ cond b Overflows Made → cond b none (some (meaning r.line)) ≡ none
        by true i = refl
        by false i = let z : ◌≡◌ {A = ℕ} 0 1 = cc in absurd (omega arith)

    pub left-made : r.status ≡ Made → narrow (line_of r.status r.line) ≡ some (meaning r.line)
    unfolding narrow line_of status_of
    left-made e = rw e (by (overflows (meaning r.line)) (overflow-is Made e))
      where
        by : (b : Bool) → Made ≡ cond b Overflows Made → cond b none (some (meaning r.line)) ≡ some (meaning r.line)
        by false i = refl
        by true i = let z : ◌≡◌ {A = ℕ} 0 1 = cc in absurd (omega arith)

    pub holds-made : r.status ≡ Made → Holds (narrow (line_of r.status r.line)) (record { found = true; line = r.line })
    unfolding line_found
    holds-made e = record { line = sym (left-made e); ready = g.ready e }

module _ {o : Option rules.Line} {r : Resolved} (g : Gives o r) where
  pub gives-own : Gives (line_of r.status r.line) r
  gives-own = subst (λ (o : Option rules.Line). Gives o r) (sym g.line) g

pub holds-derived : (v : Variable) (u l : rules.Line) {r : Resolved} {s : Stated} → Gives (resolve v u l) r → suited v u l ≡ true
    → Holds (narrow (line_of r.status r.line)) s → Holds (derived v (some u) (some l)) s
holds-derived v u l g e h = record { line = h.line ∙ ap narrow g.line ∙ sym (derived-yes v u l e); ready = h.ready }

pub holds-no : (v : Variable) (u l : rules.Line) {s : Stated} → suited v u l ≡ false → Holds none s → Holds (derived v (some u) (some l)) s
holds-no v u l e h = holds_same (derived-no v u l e) h

-- ---- variables that occur in no line
pub rational-beyond : (f : ℕ) (l : Line) → Ready l → length l.coefficients ≡ limit.rationals → limit.rationals ≤ f
    → positively (rational f) (meaning l) ≡ false
unfolding positively is_positive
rational-beyond f l h n k = ap is_positive (coefficient-is l h.shaped f ∙ get_or-eq_default l.coefficients (pos 0) (omega arith))

pub boolean-beyond : (i : ℕ) (l : Line) → limit.all_booleans ≤ i → positively (boolean i) (meaning l) ≡ false
unfolding positively meaning
boolean-beyond i l h =
    get_or-eq_default (bits limit.all_booleans l.positive) false (omega (arith, length-bits limit.all_booleans l.positive))

-- ---- constraints
module _ (l : Line) where
  pub constraint-test : no_constraint (meaning l).constraint ≡ eqb l.relation 0
  unfolding meaning constraint_of no_constraint
  constraint-test = by l.relation
    where
      by : (r : ℕ) → no_constraint (constraint_of r l.coefficients l.bound) ≡ eqb r 0
      by zero = refl
      by (suc r) = sym (eqb-suc-zero r)
