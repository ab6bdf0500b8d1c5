-- A step's constraint, field by field: its coefficients by their words, and when it is as tight as another's.
use Rattle.std.specs.Prelude.{◌≡◌, Bool, true, not, ◌&&◌, ◌||◌, List, ℤ, pos, T, eqb, length, drop}
use Rattle.std.proofs.Math.Path.{refl, sym, ap}
use Rattle.std.proofs.Common.{◌∙◌, subst, arith, eq-eqb, eqb→eq}
use Rattle.std.proofs.Math.Bool.{false, or-false}
use Rattle.std.proofs.Math.Option.{Option}
use Prim.Native.Nat.{ℕ, zero, suc, ◌+◌, ◌*◌, ◌^◌, ◌≤◌, ◌<◌}
use Rattle.std.specs.Int.Signed.{lt_z}
use Rattle.std.proofs.Math.Facts.{not_T}
use Rattle.std.proofs.Math.Dec.{leb}
use Rattle.rules_types.specs.Limits.{rationals, step_bytes}
use Rattle.rules_types.specs.Layout.{step_coefficients}
use Rattle.rules.specs.Lists.{same}
use Rattle.rules.specs.Arithmetic.{equal}
use Rattle.rules.specs.Bytes.{from_unsigned, field_at}
use Rattle.rules.specs.Problem.{Constraint}
use Rattle.rules.specs.Elimination.{as_tight}
use Rattle.theory_lists.specs.Tests.{tests_agree, of-true, is_true, is_false}
use Rattle.theory_lists.specs.Scan.{same_next, same_end}
use Rattle.theory_integers.specs.Order.{<-irrefl}
use Rattle.theory_vectors.specs.Sign.{equal-yes, yes-equal}
use Rattle.theory_bytes.specs.Amounts.{from_unsigned-injective}
use Rattle.lines.specs.declared.line.Line.{Line}
use Rattle.lines.specs.Line.{meaning, constraint_of, Shaped}
use Rattle.steps.specs.Places.{step_at, HasStep}
use Rattle.steps.specs.Decoding.{decoded, length-amounts_at}
use Rattle.steps.specs.Lines.{line_at}
use Rattle.steps.specs.Fields.{coefficient-bytes}

-- the constraint of step i
abbrev pub constraint_at : List ℕ → ℕ → Option Constraint
constraint_at proof i = (meaning (line_at proof i)).constraint

-- ---- the coefficients, word by word
eight : (proof : List ℕ) (i : ℕ) → length (line_at proof i).coefficients ≡ rationals
unfolding line_at decoded
eight proof i = length-amounts_at rationals step_coefficients (step_at proof i)

words-equal : (m n : ℕ) → m < 2 ^ 32 → n < 2 ^ 32 → equal (from_unsigned m) (from_unsigned n) ≡ eqb m n
words-equal m n h k =
    tests_agree (equal (from_unsigned m) (from_unsigned n)) (eqb m n)
    (λ t. of-true (eqb m n) (eq-eqb m n (from_unsigned-injective m n h k (equal-yes (from_unsigned m) (from_unsigned n) t))))
    (λ t. yes-equal (ap from_unsigned (eqb→eq m n t)))

module _ (proof : List ℕ) (i : ℕ) (bytes : List ℕ) where
  abbrev earlier : List ℤ
  earlier = (line_at proof i).coefficients

  abbrev these : List ℤ
  these = (line_at bytes 0).coefficients

  unfoldable pub same_from : ℕ → Bool
  same_from f = same equal (drop f earlier) (drop f these)

  -- the words of coefficient f
  abbrev word : ℕ → ℕ
  word f = field_at (step_bytes * i + (step_coefficients + 4 * f)) 4 proof

  abbrev word_here : ℕ → ℕ
  word_here f = field_at (step_bytes * 0 + (step_coefficients + 4 * f)) 4 bytes

  pub same_step : HasStep proof i → HasStep bytes 0 → (f : ℕ) → f < rationals → word f < 2 ^ 32 → word_here f < 2 ^ 32
      → same_from f ≡ eqb (word f) (word_here f) && same_from (f + 1)
  unfolding same_from
  same_step room here f h k l =
      same_next (pos 0) equal earlier these f (omega (arith, eight proof i)) (omega (arith, eight bytes 0))
      ∙ ap (λ (t : Bool). t && same_from (f + 1))
      (sym (λ j. equal (coefficient-bytes proof i room f h j) (coefficient-bytes bytes 0 here f h j))
      ∙ words-equal (word f) (word_here f) k l)

  pub same-all : same equal earlier these ≡ same_from 0
  unfolding same_from
  same-all = refl

  pub same-last : (f : ℕ) → f ≡ rationals → same_from f ≡ true
  unfolding same_from
  same-last f e = same_end equal earlier these f (eight proof i ∙ sym e) (eight bytes 0 ∙ sym e)

-- ---- bounds
pub bound-equal : (a b : ℤ) (s : Bool) → a ≡ b → s ≡ lt_z a b || equal a b && s
bound-equal a b s e =
    let not-less : T (lt_z a b) → ⊥ = λ h. <-irrefl {a = b} (record { lt = subst (λ (z : ℤ). T (lt_z z b)) e h }) in
    rw (is_false (lt_z a b) (not_T (lt_z a b) not-less), is_true (equal a b) (yes-equal e))

pub bound-other : (a b : ℤ) (s : Bool) → (a ≡ b → ⊥) → lt_z a b ≡ lt_z a b || equal a b && s
bound-other a b s n = rw (is_false (equal a b) (not_T (equal a b) (λ h. n (equal-yes a b h)))) (sym (or-false (lt_z a b)))

-- ---- relations, 0 without a constraint
-- of 1 and 2, the greater is the stricter
as-strict : (r s : ℕ) → suc r ≤ 2 → suc s ≤ 2 → eqb r 1 || not (eqb s 1) ≡ leb (suc s) (suc r)
as-strict zero zero h k = refl
as-strict zero (suc zero) h k = refl
as-strict (suc zero) zero h k = refl
as-strict (suc zero) (suc zero) h k = refl
as-strict zero (suc (suc s)) h k = absurd (omega arith)
as-strict (suc zero) (suc (suc s)) h k = absurd (omega arith)
as-strict (suc (suc r)) s h k = absurd (omega arith)

module _ (c d : Line) where
  abbrev tight : Bool
  tight = as_tight (meaning c).constraint (meaning d).constraint

  pub tight-none : c.relation ≡ 0 → tight ≡ true
  unfolding meaning constraint_of as_tight
  tight-none e = rw e

  pub tight-never : (c.relation ≡ 0 → ⊥) → d.relation ≡ 0 → tight ≡ false
  unfolding meaning constraint_of as_tight
  tight-never n e = rw e (by c.relation n)
    where
      by : (r : ℕ) → (r ≡ 0 → ⊥)
          → as_tight (constraint_of r c.coefficients c.bound) (constraint_of 0 d.coefficients d.bound) ≡ false
      by zero n = absurd (n refl)
      by (suc r) n = refl

  pub tight-by : Shaped c → Shaped d → (c.relation ≡ 0 → ⊥) → (d.relation ≡ 0 → ⊥)
      → tight ≡ same equal c.coefficients d.coefficients
      && (lt_z c.bound d.bound || equal c.bound d.bound && leb d.relation c.relation)
  unfolding meaning constraint_of as_tight
  tight-by h k n m = by c.relation d.relation h.related k.related n m
    where
      by : (r s : ℕ) → r ≤ 2 → s ≤ 2 → (r ≡ 0 → ⊥) → (s ≡ 0 → ⊥)
          → as_tight (constraint_of r c.coefficients c.bound) (constraint_of s d.coefficients d.bound)
          ≡ same equal c.coefficients d.coefficients
          && (lt_z c.bound d.bound || equal c.bound d.bound && leb s r)
      by zero s h k n m = absurd (n refl)
      by (suc r) zero h k n m = absurd (m refl)
      by (suc r) (suc s) h k n m = rw (as-strict r s h k)
