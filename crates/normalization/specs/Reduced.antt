-- A line whose constraint is divided by its content, and the content's range.
use Rattle.std.specs.Prelude.{◌≡◌, refl, false, List, ◌∷◌, ℕ, zero, suc, ◌-◌, ◌^◌, ◌≤◌, ◌<◌, ℤ, pos, nat_abs, T, get_or, replicate}
use Rattle.std.proofs.Common.{sym, ap, subst, arith}
use Rattle.std.proofs.Math.Option.{Option, none, some}
use Rattle.std.proofs.Math.Nat.{le_of_dvd}
use Rattle.std.specs.Int.Signed.{quot_z}
use Rattle.rules_types.specs.Limits as limit
use Rattle.theory_lists.specs.Tests.{of-false, clash}
use Rattle.rules.specs.Lists.{all}
use Rattle.rules.specs.Arithmetic.{gcd_all, is_zero}
use Rattle.rules.specs.Problem.{Constraint}
use Rattle.rules.specs.Lines as rules
use Rattle.rules.specs.Normalize.{reduced}
use Rattle.theory_vectors.specs.Gcd.{gcd-dvdʳ, gcd_all-nonzero, gcd_all-proper}
use Rattle.theory_vectors.specs.GcdFold.{gcd_all-≤}
use Rattle.theory_vectors.specs.Constraint.{quotients}
use Rattle.theory_vectors.specs.Amounts.{SmallAmounts, reduced-small}
use Rattle.lines.specs.declared.line.Line.{Line}
use Rattle.lines.specs.Line.{constraint_of, meaning, Shaped, Ready}
use Rattle.lines.specs.Ready.{small-ready, ready-small}

-- coefficients that have a negation of their width
pub record Bounded (l : Line) : Type 0 where
  pub coefficients : (i : ℕ) → nat_abs (get_or l.coefficients i (pos 0)) < 2 ^ 63

pub ready-bounded : {l : Line} → Ready l → Bounded l
ready-bounded h = record { coefficients = λ i. omega (arith, h.coefficients.small i) }

unfoldable pub reduced_of : Option Constraint → Option Constraint
reduced_of none = none
reduced_of (some c) = some (reduced c)

unfoldable pub reduced_line : rules.Line → rules.Line
reduced_line l = record { positive = l.positive; negative = l.negative; constraint = reduced_of l.constraint }

pub reduced-line : (l : rules.Line) (c : Constraint) → l.constraint ≡ some c → reduced_line l ≡ record {
  positive = l.positive;
  negative = l.negative;
  constraint = some (reduced c);
}
unfolding reduced_line reduced_of
reduced-line l c e = λ i. record { positive = l.positive; negative = l.negative; constraint = reduced_of (e i) }

pub reduced-is : (r : ℕ) (cs : List ℤ) (b : ℤ)
    → constraint_of r (quotients (gcd_all (b ∷ cs)) cs) (quot_z b (pos (gcd_all (b ∷ cs)))) ≡ reduced_of (constraint_of r cs b)
unfolding constraint_of reduced_of reduced
reduced-is zero cs b = refl
reduced-is (suc r) cs b = refl

-- ---- a line with a coefficient that is not 0
zeros-all : (n : ℕ) → T (all is_zero (replicate n (pos 0)))
unfolding all is_zero
zeros-all zero = tt
zeros-all (suc n) = zeros-all n

-- it has a constraint
pub with-constraint : (l : Line) → Shaped l → all is_zero l.coefficients ≡ false → 0 < l.relation
with-constraint l h e = by l.relation refl
  where
    by : (r : ℕ) → l.relation ≡ r → 0 < r
    by zero z = clash (all is_zero l.coefficients)
        (subst (λ (cs : List ℤ). T (all is_zero cs)) (sym (h.coefficients z)) (zeros-all limit.rationals))
        (of-false (all is_zero l.coefficients) e)
    by (suc r) z = omega arith

-- its content divides that coefficient
module _ (cs : List ℤ) (b : ℤ) (e : all is_zero cs ≡ false) where
  pub content-positive : 0 < gcd_all (b ∷ cs)
  content-positive = gcd_all-proper b cs (of-false (all is_zero cs) e)

  pub content-small : ((i : ℕ) → nat_abs (get_or cs i (pos 0)) < 2 ^ 63) → gcd_all (b ∷ cs) < 2 ^ 63
  unfolding gcd_all
  content-small h =
      let l : gcd_all cs ≤ 2 ^ 63 - 1 = gcd_all-≤ (2 ^ 63 - 1) cs (λ i. omega (arith, h i)) in
      omega (arith, le_of_dvd (gcd_all-nonzero cs (of-false (all is_zero cs) e)) (gcd-dvdʳ (nat_abs b) (gcd_all cs)))

-- ---- amounts stay amounts
small-reduced : (o : Option Constraint) → SmallAmounts o → SmallAmounts (reduced_of o)
unfolding reduced_of
small-reduced none h = tt
small-reduced (some c) h = reduced-small c h

pub ready-reduced : (l r : Line) → Ready l → Shaped r → meaning r ≡ reduced_line (meaning l) → Ready r
unfolding reduced_line
ready-reduced l r h k e =
    let same : (meaning r).constraint ≡ reduced_of (meaning l).constraint = ap (λ (m : rules.Line). m.constraint) e in
    small-ready r k (subst SmallAmounts (sym same) (small-reduced (meaning l).constraint (ready-small l h)))
