-- A whole model: the definition of reading by its fields, a law for each way it can go.
use Rattle.std.specs.Prelude.{◌≡◌, Bool, false, ◌&&◌, List, ℕ, ◌+◌, ◌≤◌, ◌*◌, ◌<◌, ℤ, pos, leb, drop}
use Rattle.std.proofs.Math.Path.{sym}
use Rattle.std.proofs.Common.{ap, ◌∙◌, eq-eqb, ne_eqb}
use Rattle.std.proofs.Math.Bool.{true}
use native.Mathlib.Omega.{arith}
use Rattle.std.proofs.Math.Dec.{eqb, leb→le}
use Rattle.std.proofs.Math.ListN.{length, get_or}
use Rattle.std.proofs.Math.Facts.{and_yes}
use Rattle.rules_types.specs.declared.answers.Refusal.{Refusal}
use Rattle.rules_types.specs.declared.answers.Refusal.TheVariants as refusal
use Rattle.rules_types.specs.Limits as limit
use Rattle.rules_types.specs.Layout as layout
use Rattle.rules.specs.Bytes.{field_at}
use Rattle.rules.specs.Problem.{fault, got, Reader, after, ◌>>=◌, return, repeat, each, field, amount}
use Rattle.rules.specs.Meaning.{Assignment}
use Rattle.rules.specs.Model.{model}
use Rattle.theory_lists.specs.Tests.{of-true}
use Rattle.theory_vectors.specs.Amounts.{Amounts}
use Rattle.theory_bytes.specs.Fields.{field_at-1}
use Rattle.problem_scan.specs.Fields.{field-good, field-bad}
use Rattle.problem_scan.specs.Values.{values_at, amount_at}
use Rattle.models.specs.Model.{value, assignment}
use Rattle.models.specs.declared.model.Model.{Model}
use Rattle.models.specs.Fields.{read_to}
use Rattle.models.specs.Booleans.{flag, bytes_at, ReadBooleans, RefusedBooleans}
use Rattle.models.specs.Numerators.{ReadNumerators, RefusedNumerators}

unfoldable pub is_denominator : ℕ → Bool
is_denominator n = leb 1 n && leb n limit.amount

pub denominator-within : (n : ℕ) → is_denominator n ≡ true → (1 ≤ n) × (n ≤ limit.amount)
unfolding is_denominator
denominator-within n h =
    let d = and_yes (leb 1 n) (leb n limit.amount) (of-true (is_denominator n) h) in
    (leb→le 1 n d.0, leb→le n limit.amount d.1)

-- what the definition reads, and what evaluation asks of a model
pub record ReadModel (s : List ℕ) (b r : ℕ) (opens : ℕ → Bool) (m : Model) : Type 0 where
  pub same : model b r opens s 0 ≡ read_to s (layout.model_numerators b + r * 4) (assignment m)
  pub numerators : Amounts m.numerators
  pub denominator : (1 ≤ m.denominator) × (m.denominator ≤ limit.amount)

pub record RefusedModel (s : List ℕ) (b r : ℕ) (opens : ℕ → Bool) (place : ℕ) : Type 0 where
  pub same : model b r opens s 0 ≡ fault refusal.BadModel place

-- ---- a field that is there, and what comes next
module _ {A : Type 0} (s : List ℕ) (k : ℕ) (good : ℕ → Bool) (f : Refusal) (at : ℕ) (next : ℕ → Reader A) (h : at + k ≤ length s) where
  stops : good (field_at at k s) ≡ false → after (field k good f (drop at s) at) next ≡ fault f at
  unfolding after
  stops e = rw (field-bad s k good f at h e)

  goes : good (field_at at k s) ≡ true → after (field k good f (drop at s) at) next ≡ next (field_at at k s) (drop (at + k) s) (at + k)
  unfolding after
  goes e = rw (field-good s k good f at h e)

-- ---- the rest of the model, behind the Boolean variables; behind r; and behind the denominator
module _ (r : ℕ) (booleans : List ℕ) where
  unfoldable numerators_after : ℕ → Reader Assignment
  numerators_after denominator = do
    numerators ← repeat r (amount refusal.BadModel)
    return (record {
      booleans = λ i. eqb (get_or booleans i 0) 1;
      numerators = λ f. get_or numerators f (pos 0);
      denominator = denominator;
    })

  unfoldable denominator_on : Reader Assignment
  denominator_on = ◌>>=◌ (field 4 is_denominator refusal.BadModel) numerators_after

  unfoldable rationals_on : Reader Assignment
  rationals_on = ◌>>=◌ (field 1 (eqb r) refusal.BadModel) (λ r'. denominator_on)

-- ---- field by field
-- what a caller sees to
pub record Sized (s : List ℕ) (b r : ℕ) : Type 0 where
  pub long : limit.model_bytes ≤ length s
  pub booleans : b ≤ limit.booleans
  pub rationals : r ≤ limit.rationals

-- b is the problem's
pub record BooleansAhead (s : List ℕ) (b r : ℕ) : Type 0 where
  pub sized : Sized s b r
  pub count : get_or s layout.model_booleans 0 ≡ b

-- the Boolean variables were read
pub record BooleansRead (s : List ℕ) (b r : ℕ) (opens : ℕ → Bool) (mask : ℕ) : Type 0 where
  pub ahead : BooleansAhead s b r
  pub given : ReadBooleans s layout.model_flags b opens mask

-- r is the problem's
pub record RationalsAhead (s : List ℕ) (b r : ℕ) (opens : ℕ → Bool) (mask : ℕ) : Type 0 where
  pub booleans : BooleansRead s b r opens mask
  pub count : get_or s (layout.model_rationals b) 0 ≡ r

-- the denominator is within its limits
pub record NumeratorsAhead (s : List ℕ) (b r : ℕ) (opens : ℕ → Bool) (mask : ℕ) : Type 0 where
  pub ahead : RationalsAhead s b r opens mask
  pub denominator : is_denominator (field_at (layout.model_denominator b) 4 s) ≡ true

module _ {s : List ℕ} {b r : ℕ} where
  r-there : Sized s b r → layout.model_rationals b < length s
  r-there h = omega (arith, h.long, h.booleans)

  denominator-there : Sized s b r → layout.model_denominator b + 4 ≤ length s
  denominator-there h = omega (arith, h.long, h.booleans)

  pub booleans-differ : (opens : ℕ → Bool) → Sized s b r → (get_or s layout.model_booleans 0 ≡ b → ⊥)
      → RefusedModel s b r opens layout.model_booleans
  unfolding model
  booleans-differ opens h n = record {
    same = stops s 1 (eqb b) refusal.BadModel layout.model_booleans _ (omega (arith, h.long))
        (rw (field_at-1 layout.model_booleans s (omega (arith, h.long))) (ne_eqb b (get_or s layout.model_booleans 0) (λ e. n (sym e))));
  }

  booleans-on : (opens : ℕ → Bool) → BooleansAhead s b r
      → model b r opens s 0 ≡ after (each 0 b (flag opens) (drop layout.model_flags s) layout.model_flags) (rationals_on r)
  unfolding model flag rationals_on denominator_on numerators_after is_denominator
  booleans-on opens h =
      let l : layout.model_booleans + 1 ≤ length s = omega (arith, h.sized.long) in
      goes s 1 (eqb b) refusal.BadModel layout.model_booleans _ l
      (rw (field_at-1 layout.model_booleans s l) (eq-eqb b (get_or s layout.model_booleans 0) (sym h.count)))

  module _ {opens : ℕ → Bool} where
    pub boolean-bad : (place : ℕ) → BooleansAhead s b r → RefusedBooleans s layout.model_flags b opens place
        → RefusedModel s b r opens place
    unfolding after
    boolean-bad place h k = record { same = booleans-on opens h ∙ rw k.same }

    module _ {mask : ℕ} where
      rationals-on : BooleansRead s b r opens mask
          → model b r opens s 0 ≡ rationals_on r (bytes_at s b layout.model_flags) (drop (layout.model_rationals b) s)
          (layout.model_rationals b)
      unfolding after
      rationals-on h = booleans-on opens h.ahead ∙ rw h.given.same

      pub rationals-differ : BooleansRead s b r opens mask → (get_or s (layout.model_rationals b) 0 ≡ r → ⊥)
          → RefusedModel s b r opens (layout.model_rationals b)
      unfolding rationals_on
      rationals-differ h n =
          let l = r-there h.ahead.sized in
          record {
            same = rationals-on h ∙ stops s 1 (eqb r) refusal.BadModel (layout.model_rationals b) _ (omega arith)
                (rw (field_at-1 (layout.model_rationals b) s l) (ne_eqb r (get_or s (layout.model_rationals b) 0) (λ e. n (sym e))));
          }

      denominator-on : RationalsAhead s b r opens mask
          → model b r opens s 0
          ≡ denominator_on r (bytes_at s b layout.model_flags) (drop (layout.model_denominator b) s) (layout.model_denominator b)
      unfolding rationals_on
      denominator-on h =
          let l = r-there h.booleans.ahead.sized in
          let e : layout.model_rationals b + 1 ≡ layout.model_denominator b = omega arith in
          rationals-on h.booleans ∙ goes s 1 (eqb r) refusal.BadModel (layout.model_rationals b) _ (omega arith)
          (rw (field_at-1 (layout.model_rationals b) s l) (eq-eqb r (get_or s (layout.model_rationals b) 0) (sym h.count))) ∙ rw e

      pub denominator-bad : RationalsAhead s b r opens mask → is_denominator (field_at (layout.model_denominator b) 4 s) ≡ false
          → RefusedModel s b r opens (layout.model_denominator b)
      unfolding denominator_on
      denominator-bad h e = record {
        same = denominator-on h ∙ stops s 4 is_denominator refusal.BadModel (layout.model_denominator b) _
            (denominator-there h.booleans.ahead.sized) e;
      }

      module _ (h : NumeratorsAhead s b r opens mask) where
        numerators-on : model b r opens s 0
            ≡ numerators_after r (bytes_at s b layout.model_flags) (field_at (layout.model_denominator b) 4 s)
            (drop (layout.model_numerators b) s) (layout.model_numerators b)
        unfolding denominator_on
        numerators-on =
            let e : layout.model_denominator b + 4 ≡ layout.model_numerators b = omega arith in
            denominator-on h.ahead ∙ goes s 4 is_denominator refusal.BadModel (layout.model_denominator b) _
            (denominator-there h.ahead.booleans.ahead.sized) h.denominator ∙ rw e

        pub numerator-bad : (place : ℕ) → RefusedNumerators s (layout.model_numerators b) r place → RefusedModel s b r opens place
        unfolding numerators_after after
        numerator-bad place k = record { same = numerators-on ∙ rw k.same }

        pub model-read : (numerators : List ℤ) → ReadNumerators s (layout.model_numerators b) r numerators
            → ReadModel s b r opens (record {
              booleans = mask;
              numerators = numerators;
              denominator = field_at (layout.model_denominator b) 4 s;
            })
        unfolding numerators_after after assignment value
        model-read numerators k =
            let at = layout.model_numerators b + r * 4 in
            record {
              same = numerators-on ∙ rw k.same (ap (λ (χ : Assignment). got χ (drop at s) at) made);
              numerators = k.small;
              denominator = denominator-within (field_at (layout.model_denominator b) 4 s) h.denominator;
            }
          where
            made : record {
              booleans = λ i. eqb (get_or (bytes_at s b layout.model_flags) i 0) 1;
              numerators = λ f. get_or (values_at (amount_at s) 4 r (layout.model_numerators b)) f (pos 0);
              denominator = field_at (layout.model_denominator b) 4 s;
            }
                ≡ assignment (record {
                  booleans = mask;
                  numerators = numerators;
                  denominator = field_at (layout.model_denominator b) 4 s;
                })
            made = λ j. record {
              booleans = λ i. sym (h.ahead.booleans.given.members i) j;
              numerators = λ f. sym (k.values f) j;
              denominator = field_at (layout.model_denominator b) 4 s;
            }
