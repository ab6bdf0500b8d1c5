-- Which variable a clause at its place keeps, by tests on its bytes.
use Rattle.std.specs.Prelude.{◌≡◌, true, pos, leb, get_or}
use Rattle.std.proofs.Math.Path.{refl, sym}
use Rattle.std.proofs.Common.{◌∙◌, ⊎_elim, eq-zero-or-pos, le-leb}
use Rattle.std.proofs.Math.Bool.{false}
use mathlib.Core.List.{List, [], ◌∷◌}
use Prim.Native.Nat.{ℕ, zero, suc, ◌+◌, ◌-◌, ◌<◌}
use native.Mathlib.Omega.{arith}
use Rattle.std.proofs.lemmas.Bool.{lt-leb}
use Rattle.std.proofs.Math.IntN.{ℤ}
use Rattle.std.specs.Int.Signed.{le_z}
use Rattle.rules_types.specs.Limits as limit
use Rattle.rules_types.specs.Layout as layout
use Rattle.rules.specs.Bytes.{from_unsigned, field_at}
use Rattle.rules.specs.Problem.{relation_of}
use Rattle.rules.specs.Convert.{is_upper, sole_bound, kept_by}
use Rattle.theory_bytes.specs.Amounts.{from_unsigned-low, from_unsigned-high}
use Rattle.problem_scan.specs.Values.{values_at, behind, behind-is, amount_at, bound_of, literal_at, comparison_at, comparisons_at}
use Rattle.problem_scan.specs.Values.{count_of}
use Rattle.problem_scan.specs.Values.{clause_at}
use Rattle.problem_clauses.specs.Passes.{length-values}
use Rattle.kept_rationals.specs.Alone.{alone_in, alone-is, alone-padded, At, at-past}

-- ---- "a bound of at most 0", by its 32 bits
pub bound-zero : (n : ℕ) → n ≡ 0 → true ≡ le_z (from_unsigned n) (pos 0)
unfolding from_unsigned
bound-zero n e = rw e

pub bound-other : (n : ℕ) → (n ≡ 0 → ⊥) → leb 2147483648 n ≡ le_z (from_unsigned n) (pos 0)
bound-other n h = ⊎_elim
    (λ z. rw (from_unsigned-high n (omega arith)) (le-leb 2147483648 n (omega arith)))
    (λ k. rw (from_unsigned-low n (omega arith)) (lt-leb 2147483648 n (omega arith) ∙ sym (lt-leb n 0 (positive n h))))
    (eq-zero-or-pos (2147483648 - n))
  where
    positive : (n : ℕ) → (n ≡ 0 → ⊥) → 0 < n
    positive zero h = absurd (h refl)
    positive (suc n) h = omega arith

-- ---- a comparison at a place, as the sole one of its clause: v is the only variable that it bounds, or not below r
pub record BoundsOnly (q : List ℕ) (r at v : ℕ) : Type 0 where
  pub same : (f : ℕ) → sole_bound f (comparison_at q r at ∷ []) ≡ At r f v

module _ (q : List ℕ) (r at : ℕ) where
  pub not-upper : is_upper (relation_of (get_or q at 0)) ≡ false → BoundsOnly q r at r
  unfolding sole_bound comparison_at
  not-upper e = record { same = λ f. rw e (sym (at-past r f)) }

  module _ (upper : is_upper (relation_of (get_or q at 0)) ≡ true) (n place : ℕ) (bits : n ≡ field_at place 4 q)
      (there : place ≡ at + layout.comparison_bound r) where
    bound-is : le_z (comparison_at q r at).bound (pos 0) ≡ le_z (from_unsigned n) (pos 0)
    unfolding comparison_at amount_at bound_of
    bound-is =
        let e : behind 4 r (at + layout.comparison_coefficients)
        ≡ place = omega (arith, behind-is 4 r (at + layout.comparison_coefficients), there) in
        rw (e, bits)

    pub above_zero : le_z (from_unsigned n) (pos 0) ≡ false → BoundsOnly q r at r
    unfolding sole_bound comparison_at
    above_zero e = record { same = λ f. rw (upper, bound-is ∙ e) (sym (at-past r f)) }

    pub bounds-alone : le_z (from_unsigned n) (pos 0) ≡ true → (v : ℕ)
        → v ≡ alone_in r 0 r (values_at (amount_at q) 4 r (at + layout.comparison_coefficients)) → BoundsOnly q r at v
    unfolding sole_bound comparison_at
    bounds-alone e v i = record {
      same = λ f.
          let z : 0 + f ≡ f = omega arith in
          rw (upper, bound-is ∙ e, i)
          (alone-padded f row (limit.rationals - r)
          ∙ (rw z at (alone-is r 0 row (omega (arith, length-values (amount_at q) 4 r (at + layout.comparison_coefficients))) f)));
    }
      where
        row : List ℤ
        row = values_at (amount_at q) 4 r (at + layout.comparison_coefficients)

-- ---- a clause at a place: v is the only variable that it keeps, or not below r
pub record KeepsOnly (q : List ℕ) (r at v : ℕ) : Type 0 where
  pub same : (f : ℕ) → kept_by f (clause_at q r at) ≡ At r f v

module _ (q : List ℕ) (r at : ℕ) where
  pub with-literals : (get_or q at 0 ≡ 0 → ⊥) → KeepsOnly q r at r
  unfolding kept_by clause_at values_at
  with-literals h = record { same = λ f. by f (get_or q at 0) h ∙ sym (at-past r f) }
    where
      by : (f m : ℕ) → (m ≡ 0 → ⊥) → elim (values_at (literal_at q) 1 m (at + 1)) [
        | [] ↦ sole_bound f (comparisons_at q r (get_or q (count_of q at) 0) (count_of q at + 1))
        | l ∷ ls ↦ false
      ] ≡ false
      by f zero h = absurd (h refl)
      by f (suc m) h = refl

  module _ (none : get_or q at 0 ≡ 0) (place : ℕ) (there : place ≡ count_of q at) where
    -- so its comparisons decide
    sole : (f : ℕ) → kept_by f (clause_at q r at) ≡ sole_bound f (comparisons_at q r (get_or q place 0) (place + 1))
    unfolding kept_by clause_at values_at
    sole f = rw (none, there)

    pub not-one : (get_or q place 0 ≡ 1 → ⊥) → KeepsOnly q r at r
    unfolding sole_bound values_at
    not-one h = record { same = λ f. sole f ∙ by f (get_or q place 0) h ∙ sym (at-past r f) }
      where
        by : (f t : ℕ) → (t ≡ 1 → ⊥) → sole_bound f (comparisons_at q r t (place + 1)) ≡ false
        by f zero h = refl
        by f (suc zero) h = absurd (h refl)
        by f (suc (suc t)) h = refl

    pub one-alone : get_or q place 0 ≡ 1 → (v : ℕ) → BoundsOnly q r (place + 1) v → KeepsOnly q r at v
    unfolding values_at
    one-alone e v b = record { same = λ f. sole f ∙ rw e (b.same f) }
