-- The numerators: refused at the first that is no amount, or a row.
use Rattle.std.specs.Prelude.{◌≡◌, true, false, List, ℕ, ◌+◌, ◌*◌, ◌-◌, ◌≤◌, ◌<◌, ℤ, pos, nat_abs, length, drop, get_or, set, replicate}
use Rattle.std.proofs.Common.{sym, ap, ◌∙◌, eq-zero-or-pos, arith, leb-true, get_or-set_same, get_or-set_other}
use Rattle.std.proofs.Math.Logic.{⊎_elim}
use Rattle.rules_types.specs.declared.answers.Refusal.TheVariants as refusal
use Rattle.rules_types.specs.Limits as limit
use Rattle.rules.specs.Bytes.{from_unsigned}
use Rattle.rules.specs.Problem.{fault, after, repeat, amount, in_range}
use Rattle.theory_lists.specs.All.{get_or-replicate-same}
use Rattle.theory_vectors.specs.Amounts.{Amounts}
use Rattle.theory_bytes.specs.ReadBack.{repeat-each}
use Rattle.problem_scan.specs.Fields.{field-good, field-bad}
use Rattle.problem_scan.specs.Values.{values_at, amount_at}
use Rattle.models.specs.Fields.{read_to, Tested, each-good, each-bad, Filled, filled_none, filled_more, filled-values}

pub record ReadNumerators (s : List ℕ) (from count : ℕ) (numerators : List ℤ) : Type 0 where
  pub same : repeat count (amount refusal.BadModel) (drop from s) from
      ≡ read_to s (from + count * 4) (values_at (amount_at s) 4 count from)
  pub small : Amounts numerators
  pub values : (j : ℕ) → get_or numerators j (pos 0) ≡ get_or (values_at (amount_at s) 4 count from) j (pos 0)

pub record RefusedNumerators (s : List ℕ) (from count place : ℕ) : Type 0 where
  pub same : repeat count (amount refusal.BadModel) (drop from s) from ≡ fault refusal.BadModel place

amount-tested : (s : List ℕ) → Tested s (λ i. amount refusal.BadModel) 4 (λ i at. in_range (amount_at s at)) (amount_at s)
unfolding amount amount_at after
amount-tested s =
    record {
      good = λ i at h t. rw (field-good s 4 (λ n. in_range (from_unsigned n)) refusal.BadModel at h t);
      bad = λ i at h t. rw (field-bad s 4 (λ n. in_range (from_unsigned n)) refusal.BadModel at h t);
    }

-- ---- the loop: the first i are amounts, and are kept in front of zeros
pub record RowTo (s : List ℕ) (from i : ℕ) (out : List ℤ) : Type 0 where
  pub filled : Filled (λ j. in_range (amount_at s (from + j * 4))) (λ j. amount_at s (from + j * 4)) (pos 0) i (λ j. get_or out j (pos 0))

module _ {s : List ℕ} {from : ℕ} where
  pub row-none : RowTo s from 0 (replicate limit.rationals (pos 0))
  row-none = record { filled = filled_none (λ j. get_or-replicate-same limit.rationals j (pos 0)) }

  pub row_more : {i : ℕ} {out : List ℤ} (z : ℤ) → RowTo s from i out → i < length out → z ≡ amount_at s (from + i * 4) → in_range z ≡ true
      → RowTo s from (i + 1) (set out i z)
  row_more {i} {out} z f l e t =
      record {
        filled = filled_more f.filled (ap in_range (sym e) ∙ t) (get_or-set_same out i z (pos 0) l ∙ e)
            (λ j o. get_or-set_other out i j z (pos 0) o);
      }

  amounts : {i : ℕ} {out : List ℤ} → RowTo s from i out → Amounts out
  unfolding in_range
  amounts {i} {out} f =
      record {
        small = λ j. ⊎_elim
            (λ z. rw (f.filled.beyond j (omega arith)) (omega arith))
            (λ z. rw (f.filled.here j (omega arith))
            (leb-true (nat_abs (amount_at s (from + j * 4))) limit.amount (f.filled.passed j (omega arith))))
            (eq-zero-or-pos (i - j));
      }

  pub row-bad : {i count : ℕ} {out : List ℤ} → RowTo s from i out → i < count → from + count * 4 ≤ length s → (z : ℤ)
      → z ≡ amount_at s (from + i * 4) → in_range z ≡ false
      → RefusedNumerators s from count (from + i * 4)
  row-bad {i} {count} {out} f l h z e t =
      record {
        same = rw (repeat-each (amount refusal.BadModel) count 0)
            (each-bad (amount-tested s) i count 0 from l h f.filled.passed (ap in_range (sym e) ∙ t));
      }

  pub row_done : {i count : ℕ} {out : List ℤ} → RowTo s from i out → i ≡ count → from + count * 4 ≤ length s
      → ReadNumerators s from count out
  row_done {i} {count} {out} f e h =
      let g : RowTo s from count out = rw e at f in
      record {
        same = rw (repeat-each (amount refusal.BadModel) count 0) (each-good (amount-tested s) count 0 from h g.filled.passed);
        small = amounts g;
        values = filled-values (amount_at s) 4 (pos 0) (λ z. z) count from g.filled;
      }
