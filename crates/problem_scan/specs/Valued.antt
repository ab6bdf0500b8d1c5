-- What reading gives: a fault; or the value that stands at the place, found within the limits, with what stands behind it left.
use Rattle.std.specs.Prelude.{◌≡◌, Bool, not, ◌&&◌, ◌||◌, List, ◌∷◌, nat_abs, drop, get_or}
use Rattle.std.proofs.Math.Path.{refl}
use Rattle.std.proofs.Common.{sym, eq-zero-or-pos}
use Rattle.std.proofs.Math.Bool.{true, false}
use Rattle.std.proofs.Math.Logic.{⊎_elim}
use Prim.Native.Nat.{ℕ, zero, suc, ◌+◌, ◌-◌, ◌≤◌}
use native.Mathlib.Omega.{arith}
use borrow.Author.Tests.{leb-true}
use Rattle.std.proofs.Math.ListN.{length}
use Rattle.rules_types.specs.declared.answers.Refusal.{Refusal}
use Rattle.rules_types.specs.declared.answers.Refusal.TheVariants as refusal
use Rattle.rules_types.specs.Limits as limit
use Rattle.rules_types.specs.Layout as layout
use Rattle.rules.specs.Bytes.{from_unsigned, field_at}
use Rattle.rules.specs.Problem.{Read, fault, got, Reader, after, return, repeat, tested, field, in_range, amount, literal, clause}
use Rattle.rules.specs.Problem.{is_relation, relation_of, is_equality, relation, comparison, comparisons}
use Rattle.theory_bytes.specs.Fields.{field_at-1}
use Rattle.problem_scan.specs.declared.cursor.Cursor.TheVariants.{Next}
use Rattle.problem_scan.specs.Seen.{seen}
use Rattle.problem_scan.specs.Fields.{number-there, field-short}
use Rattle.problem_scan.specs.Values.{values_at, behind, behind-is, amount_at, literal_at, bound_of, comparison_at}
use Rattle.problem_scan.specs.Values.{comparisons_at, count_of, clause_at, clause_end}
use Rattle.problem_scan.specs.Sound.{Each, Amount, SoundComparison, SoundClause}

-- a fault; or the value v, of which S was tested, with what stands from n on left
pub data Valued {A : Type 0} (q : List ℕ) (v : A) (S : Type 0) (n : ℕ) (r : Read A) : Type 0 where
  faulty : (f : Refusal) (place : ℕ) → r ≡ fault f place → Valued q v S n r
  given : r ≡ got v (drop n q) n → n ≤ length q → S → Valued q v S n r

module _ {A B : Type 0} {q : List ℕ} {v : A} {S : Type 0} {n : ℕ} {w : B} {T : Type 0} {m : ℕ} {r : Read A} where
  pub valued-after : (next : A → Reader B) → Valued q v S n r → (S → n ≤ length q → Valued q w T m (next v (drop n q) n))
      → Valued q w T m (after r next)
  unfolding after
  valued-after next (faulty f place e) h = faulty f place (rw e)
  valued-after next (given e l s) h = rw e (h s l)

-- a reader that goes on has given it
pub seen-valued : {A : Type 0} {q : List ℕ} {v : A} {S : Type 0} {n : ℕ} {r : Read A} → Valued q v S n r → (m : ℕ) → seen r ≡ Next m
    → (r ≡ got v (drop m q) m) × (m ≤ length q) × S
unfolding seen
seen-valued (faulty f place e) m i = let z : ◌≡◌ {A = ℕ} 0 1 = cc in absurd (omega arith)
seen-valued {n} (given e l s) m i = let z : m ≡ n = cc in rw z (e, l, s)

-- one, then the others
abbrev pub joined : {A : Type 0} → Reader A → (A → Reader (List A)) → Reader (List A)
joined one others = λ bytes place. after (one bytes place) (λ x bytes place. after (others x bytes place) (λ xs. return (x ∷ xs)))

module _ (q : List ℕ) where
  -- ---- a field
  tested-valued : (good : Bool) (f : Refusal) (place v n : ℕ) → n ≤ length q
      → Valued q v (good ≡ true) n (tested good f place v (drop n q) n)
  unfolding tested
  tested-valued true f place v n h = given refl h refl
  tested-valued false f place v n h = faulty f place refl

  field-valued : (k : ℕ) (good : ℕ → Bool) (f : Refusal) (at : ℕ) → at ≤ length q
      → Valued q (field_at at k q) (good (field_at at k q) ≡ true) (at + k) (field k good f (drop at q) at)
  unfolding field
  field-valued k good f at h = ⊎_elim
      (λ z. let l : at + k ≤ length q = omega arith in
      valued-after _ (given (number-there q k at l) l (tt {0}))
      (λ t l. tested-valued (good (field_at at k q)) f at (field_at at k q) (at + k) l))
      (λ z. faulty refusal.Truncated (length q) (field-short q k good f at h (omega arith)))
      (eq-zero-or-pos (at + k - length q))

  -- of one byte
  byte-valued : (good : ℕ → Bool) (f : Refusal) (at : ℕ) → at ≤ length q
      → Valued q (get_or q at 0) (good (get_or q at 0) ≡ true) (at + 1) (field 1 good f (drop at q) at)
  byte-valued good f at h = by (field-valued 1 good f at h)
    where
      by : Valued q (field_at at 1 q) (good (field_at at 1 q) ≡ true) (at + 1) (field 1 good f (drop at q) at)
          → Valued q (get_or q at 0) (good (get_or q at 0) ≡ true) (at + 1) (field 1 good f (drop at q) at)
      by (faulty g place e) = faulty g place e
      by (given e l s) = rw (field_at-1 at q (omega arith)) at (given e l s)

  pub amount-valued : (f : Refusal) (at : ℕ) → at ≤ length q → Valued q (amount_at q at) (Amount q at) (at + 4) (amount f (drop at q) at)
  unfolding amount amount_at in_range
  amount-valued f at h = valued-after _ (field-valued 4 (λ n. in_range (from_unsigned n)) f at h)
      (λ t l. given refl l (leb-true (nat_abs (from_unsigned (field_at at 4 q))) limit.amount t))

  pub literal-valued : (b at : ℕ) → at ≤ length q → Valued q (literal_at q at) (Unit {0}) (at + 1) (literal b (drop at q) at)
  unfolding literal literal_at
  literal-valued b at h = valued-after _ (byte-valued _ _ at h) (λ t l. given refl l tt)

  -- ---- several
  module _ {A : Type 0} (one : ℕ → A) (P : ℕ → Type 0) (size : ℕ) where
    joined-valued : (k at : ℕ) (reader : Reader A) (others : A → Reader (List A))
        → Valued q (one at) (P at) (at + size) (reader (drop at q) at)
        → (at + size ≤ length q → Valued q (values_at one size k (at + size)) (Each P size k (at + size)) (behind size k (at + size))
        (others (one at) (drop (at + size) q) (at + size)))
        → Valued q (values_at one size (suc k) at) (Each P size (suc k) at) (behind size (suc k) at)
        (joined reader others (drop at q) at)
    unfolding values_at behind Each
    joined-valued k at reader others v h = valued-after _ v (λ p l. valued-after _ (h l) (λ ps l. given refl l (p, ps)))

    repeat-valued : (reader : Reader A)
        → ((at : ℕ) → at ≤ length q → Valued q (one at) (P at) (at + size) (reader (drop at q) at)) → (k at : ℕ) → at ≤ length q
        → Valued q (values_at one size k at) (Each P size k at) (behind size k at) (repeat k reader (drop at q) at)
    unfolding repeat values_at behind Each
    repeat-valued reader each zero at h = given refl h tt
    repeat-valued reader each (suc k) at h = joined-valued k at reader _ (each at h) (repeat-valued reader each k (at + size))

  -- ---- a comparison, several, and a clause
  relation-valued : (equated : Bool) (at : ℕ) → at ≤ length q
      → Valued q (relation_of (get_or q at 0)) (is_relation (get_or q at 0) ≡ true) (at + 1) (relation equated (drop at q) at)
  unfolding relation
  relation-valued equated at h =
      valued-after _ (byte-valued is_relation _ at h) (λ t l.
      valued-after _ (tested-valued (not (equated && is_equality (relation_of (get_or q at 0)))) _ at (get_or q at 0) (at + 1) l) (λ u l.
      given refl l t))

  pub comparison-valued : (equated : Bool) (r at : ℕ) → at ≤ length q
      → Valued q (comparison_at q r at) (SoundComparison q r at) (at + layout.comparison_bytes r) (comparison equated r (drop at q) at)
  unfolding comparison comparison_at bound_of
  comparison-valued equated r at h =
      let from = at + layout.comparison_coefficients in
      let e : behind 4 r from + 4 ≡ at + layout.comparison_bytes r = omega (arith, behind-is 4 r from) in
      valued-after _ (relation-valued equated at h) (λ t l.
      valued-after _ (repeat-valued (amount_at q) (Amount q) 4 (amount refusal.Amount) (amount-valued refusal.Amount) r
      (at + layout.comparison_coefficients) l) (λ s l.
      valued-after _ (amount-valued refusal.Amount (behind 4 r (at + layout.comparison_coefficients)) l) (λ u l.
      rw (sym e) (given refl l (record { within = omega (arith, e); relation = t; coefficients = s; bound = u })))))

  comparisons-valued : (k : ℕ) (equated : Bool) (r at : ℕ) → at ≤ length q
      → Valued q (comparisons_at q r k at) (Each (SoundComparison q r) (layout.comparison_bytes r) k at)
      (behind (layout.comparison_bytes r) k at) (comparisons k equated r (drop at q) at)
  unfolding comparisons values_at behind Each
  comparisons-valued zero equated r at h = given refl h tt
  comparisons-valued (suc k) equated r at h = joined-valued (comparison_at q r) (SoundComparison q r) (layout.comparison_bytes r) k at
      (comparison equated r) _ (comparison-valued equated r at h)
      (comparisons-valued k (equated || is_equality (comparison_at q r at).relation) r (at + layout.comparison_bytes r))

  pub clause-valued : (b r at : ℕ) → at ≤ length q
      → Valued q (clause_at q r at) (SoundClause q r at) (clause_end q r at) (clause b r (drop at q) at)
  unfolding clause clause_at clause_end count_of
  clause-valued b r at h =
      valued-after _ (byte-valued _ _ at h) (λ m l.
      valued-after _ (repeat-valued (literal_at q) (λ i. Unit {0}) 1 (literal b) (literal-valued b) (get_or q at 0) (at + 1) l) (λ s l.
      valued-after _ (byte-valued _ _ (count_of q at) l) (λ t l.
      valued-after _ (comparisons-valued (get_or q (count_of q at) 0) false r (count_of q at + 1) l) (λ u l.
      given refl l (record {
        within = l;
        literals = leb-true (get_or q at 0) limit.literals m;
        count = leb-true (get_or q (count_of q at) 0) limit.comparisons t;
        comparisons = u;
      })))))
