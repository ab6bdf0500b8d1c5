-- The constraint of a line in machine words: whether it holds, and what it bounds a variable by.
use Rattle.std.specs.Prelude.{◌≡◌, Bool, false, ℕ, ◌≤◌, ◌<◌, ℤ, pos, nat_abs, ◌*ℤ◌, eqb, length, get_or}
use Rattle.std.proofs.Math.Path.{refl}
use Rattle.std.proofs.Common.{sym, ap}
use Rattle.rules_types.specs.Limits as limit
use Rattle.rules.specs.Arithmetic.{sum, related}
use Rattle.rules.specs.Meaning.{constraint_holds}
use Rattle.rules.specs.Lines.{coefficient, the_constraint_holds}
use Rattle.rules.specs.Values.{quotient, beyond, bound_of}
use Rattle.theory_bounds.specs.Meets.{rest}
use Rattle.fractions.specs.Range.{Small, Scaled}
use Rattle.fractions.specs.Enough.{gathered-≤}
use Rattle.fractions.specs.NotBeyond.{quotient-small}
use Rattle.lines.specs.declared.line.Line.{Line}
use Rattle.lines.specs.Line.{constraint_of, constraint_in, meaning, Ready}
use Rattle.lines.specs.Forms.{constraint-is}
use Rattle.models.specs.declared.model.Model.{Model}
use Rattle.models.specs.Model.{value, assignment}
use Rattle.values.specs.Range.{InRange}

module _ (l : Line) (m : Model) where
  pub none-holds : l.relation ≡ 0 → the_constraint_holds (assignment m) (meaning l).constraint ≡ false
  unfolding meaning constraint_of the_constraint_holds
  none-holds e = rw e

  -- by the sum and bound × denominator
  pub some_holds : (t : Bool) (s b : ℤ) → 0 < l.relation → eqb l.relation 2 ≡ t → s ≡ sum l.coefficients (value m.numerators)
      → b ≡ l.bound *ℤ pos m.denominator
      → related t s b ≡ the_constraint_holds (assignment m) (meaning l).constraint
  unfolding the_constraint_holds constraint_holds assignment
  some_holds t s b h e i j = rw (i, j, ← e) (ap (the_constraint_holds (assignment m)) (sym (constraint-is l h)))

-- ---- what it bounds a variable by
module _ (l : Line) (m : Model) (f : ℕ) (n : length l.coefficients ≡ limit.rationals) (h : f < limit.rationals)
    (k : Ready l) (r : InRange m) where
  abbrev other : ℤ
  other = rest f l.coefficients l.bound (value m.numerators) m.denominator

  pub rest-≤ : nat_abs other ≤ 8000000000000000000
  unfolding value
  rest-≤ = gathered-≤ f l.coefficients l.bound (value m.numerators) m.denominator n h k.coefficients.small k.bound
      r.amounts.small r.small

  pub rest-scaled : 0 < nat_abs (get_or l.coefficients f (pos 0)) → Scaled other (get_or l.coefficients f (pos 0)) m.denominator
  rest-scaled z = record {
    numerator = rest-≤;
    nonzero = z;
    coefficient = k.coefficients.small f;
    positive = r.positive;
    denominator = r.small;
  }

  pub bound-is : quotient other (get_or l.coefficients f (pos 0)) m.denominator ≡ bound_of (assignment m) f (constraint_in l)
  unfolding bound_of assignment coefficient
  bound-is = refl

  pub bound-small : 0 < nat_abs (get_or l.coefficients f (pos 0)) → beyond (bound_of (assignment m) f (constraint_in l)) ≡ false
      → Small (bound_of (assignment m) f (constraint_in l))
  bound-small z = rw (← bound-is) (quotient-small other (get_or l.coefficients f (pos 0)) m.denominator (rest-scaled z))
