-- The constraint of a resolvent, by its words.
use Rattle.std.specs.Prelude.{◌≡◌, Bool, true, false, List, ℕ, zero, suc, ◌*◌, ◌≤◌, ◌<◌, max, ℤ, pos, nat_abs, ◌+ℤ◌, ◌*ℤ◌, get_or}
use Rattle.std.proofs.Math.Path.{refl}
use Rattle.std.proofs.Math.Option.{Option}
use Rattle.std.proofs.Common.{arith}
use Rattle.theory_lists.specs.Tests.{clash, of-true, of-false}
use Rattle.rules.specs.Arithmetic.{combine, is_positive, is_negative}
use Rattle.rules.specs.Lines.{coefficient, rational, positively, negatively}
use Rattle.lines.specs.Forms.{relations}
use Rattle.rules.specs.Problem.{Constraint}
use Rattle.rules.specs.Resolve.{one_of, combination, combination_of}
use Rattle.lines.specs.declared.line.Line.{Line}
use Rattle.lines.specs.Line.{constraint_of, meaning}

pub one-upper : (r : ℕ) (cs : List ℤ) (b : ℤ) (o : Option Constraint) → (r ≡ 0 → ⊥) → one_of (constraint_of r cs b) o ≡ constraint_of r cs b
unfolding one_of constraint_of
one-upper zero cs b o h = absurd (h refl)
one-upper (suc r) cs b o h = refl

pub one_lower : (r : ℕ) (cs : List ℤ) (b : ℤ) (o : Option Constraint) → r ≡ 0 → one_of (constraint_of r cs b) o ≡ o
unfolding one_of constraint_of
one_lower r cs b o e = rw e (by cs b o)
  where
    by : (cs : List ℤ) (b : ℤ) (o : Option Constraint) → one_of (constraint_of 0 cs b) o ≡ o
    by cs b o = refl

-- ---- by a rational variable
-- a line without a constraint has no rational variable
with-variable : (t : ℤ → Bool) (f r : ℕ) (cs : List ℤ) (b : ℤ) → t (pos 0) ≡ false → t (coefficient f (constraint_of r cs b)) ≡ true → 0 < r
unfolding coefficient constraint_of
with-variable t f zero cs b n y = clash (t (pos 0)) (of-true (t (pos 0)) y) (of-false (t (pos 0)) n)
with-variable t f (suc r) cs b n y = omega arith

module _ (f : ℕ) (l : Line) where
  pub upper-constraint : positively (rational f) (meaning l) ≡ true → 0 < l.relation
  unfolding meaning positively is_positive
  upper-constraint y = with-variable is_positive f l.relation l.coefficients l.bound refl y

  pub lower-constraint : negatively (rational f) (meaning l) ≡ true → 0 < l.relation
  unfolding meaning negatively is_negative
  lower-constraint y = with-variable is_negative f l.relation l.coefficients l.bound refl y

module _ (f : ℕ) (us : List ℤ) (ub : ℤ) (ls : List ℤ) (lb : ℤ) where
  abbrev pub combined : ℕ → Option Constraint
  combined r =
      let a = get_or us f (pos 0) in
      let c = pos (nat_abs (get_or ls f (pos 0))) in
      constraint_of r (combine c us a ls) (c *ℤ ub +ℤ a *ℤ lb)

  pub combination-is : (r s : ℕ) → r ≤ 2 → s ≤ 2 → 0 < r → 0 < s
      → combined (max r s) ≡ combination_of f (constraint_of r us ub) (constraint_of s ls lb)
  unfolding constraint_of combination_of combination coefficient
  combination-is r s h k =
      relations (λ r. 0 < r → 0 < s → combined (max r s) ≡ combination_of f (constraint_of r us ub) (constraint_of s ls lb)) r h
      (λ z y. absurd (omega arith))
      (λ z. relations (λ s. 0 < s → combined (max 1 s) ≡ combination_of f (constraint_of 1 us ub) (constraint_of s ls lb)) s k
      (λ y. absurd (omega arith)) (λ y. refl) (λ y. refl))
      (λ z. relations (λ s. 0 < s → combined (max 2 s) ≡ combination_of f (constraint_of 2 us ub) (constraint_of s ls lb)) s k
      (λ y. absurd (omega arith)) (λ y. refl) (λ y. refl))

pub constraints-agree : {r r' : ℕ} {cs cs' : List ℤ} {b b' : ℤ} → r ≡ r' → cs ≡ cs' → b ≡ b'
    → constraint_of r cs b ≡ constraint_of r' cs' b'
constraints-agree p q t = λ i. constraint_of (p i) (q i) (t i)
