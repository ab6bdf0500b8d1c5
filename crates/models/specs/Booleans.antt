-- The Boolean variables' bytes: refused at the first that is not as it must be, or a set.
use Rattle.std.specs.Prelude.{◌≡◌, Bool, cond, List, ℕ, ◌+◌, ◌*◌, ◌≤◌, ◌<◌, eqb, length, drop, set}
use Rattle.std.proofs.Math.Path.{refl}
use Rattle.std.proofs.Common.{sym, ap, ◌∙◌, arith}
use Rattle.std.proofs.Math.Bool.{true, false}
use Rattle.std.proofs.Math.ListN.{get_or}
use Rattle.std.proofs.Math.Seq.{get_or-set_same, get_or-set_other}
use Rattle.rules_types.specs.Limits as limit
use Rattle.rules_types.specs.declared.answers.Refusal.TheVariants as refusal
use Rattle.rules.specs.Problem.{fault, Reader, each, field}
use Rattle.rules.specs.Lines.{Booleans, including}
use Rattle.rules.specs.Model.{is_boolean_byte}
use Rattle.theory_lists.specs.All.{get_or-replicate-same}
use Rattle.theory_bytes.specs.Fields.{field_at-1}
use Rattle.masks.specs.Mask.{bits, length-bits}
use Rattle.problem_scan.specs.Fields.{field-good, field-bad}
use Rattle.problem_scan.specs.Values.{values_at}
use Rattle.models.specs.Fields.{read_to, Tested, each-good, each-bad, Filled, filled_none, filled_more, filled-values}

-- "mark not 0 or 1", and 2 of an open one
unfoldable pub flag : (ℕ → Bool) → ℕ → Reader ℕ
flag opens i = field 1 (is_boolean_byte (opens i)) refusal.BadModel

unfoldable pub joined : ℕ → ℕ → Booleans → Booleans
joined i byte s = cond (eqb byte 1) (including i s) s

-- the bytes from a place on
abbrev pub bytes_at : List ℕ → ℕ → ℕ → List ℕ
bytes_at s count from = values_at (λ at. get_or s at 0) 1 count from

pub record ReadBooleans (s : List ℕ) (from count : ℕ) (opens : ℕ → Bool) (mask : ℕ) : Type 0 where
  pub same : each 0 count (flag opens) (drop from s) from ≡ read_to s (from + count) (bytes_at s count from)
  pub members : (j : ℕ) → get_or (bits limit.all_booleans mask) j false ≡ eqb (get_or (bytes_at s count from) j 0) 1

pub record RefusedBooleans (s : List ℕ) (from count : ℕ) (opens : ℕ → Bool) (place : ℕ) : Type 0 where
  pub same : each 0 count (flag opens) (drop from s) from ≡ fault refusal.BadModel place

flag-tested : (s : List ℕ) (opens : ℕ → Bool) → Tested s (flag opens) 1 (λ i at. is_boolean_byte (opens i) (get_or s at 0))
    (λ at. get_or s at 0)
unfolding flag
flag-tested s opens =
    record {
      good = λ i at h t.
          let e = field_at-1 at s (omega arith) in field-good s 1 (is_boolean_byte (opens i)) refusal.BadModel at h (rw e t) ∙ rw e;
      bad = λ i at h t. let e = field_at-1 at s (omega arith) in field-bad s 1 (is_boolean_byte (opens i)) refusal.BadModel at h (rw e t);
    }

module _ (i byte : ℕ) (s : Booleans) where
  pub joined-here : i < length s → get_or s i false ≡ false → get_or (joined i byte s) i false ≡ eqb byte 1
  unfolding joined including
  joined-here h e = by (eqb byte 1)
    where
      by : (b : Bool) → get_or (cond b (set s i true) s) i false ≡ b
      by true = get_or-set_same s i true false h
      by false = e

  pub joined-other : (j : ℕ) → (j ≡ i → ⊥) → get_or (joined i byte s) j false ≡ get_or s j false
  unfolding joined including
  joined-other j o = by (eqb byte 1)
    where
      by : (b : Bool) → get_or (cond b (set s i true) s) j false ≡ get_or s j false
      by true = get_or-set_other s i j true false o
      by false = refl

-- ---- the loop: the first i bytes are as they must be, and those that are 1 are members
pub record FlagsTo (s : List ℕ) (from : ℕ) (opens : ℕ → Bool) (i mask : ℕ) : Type 0 where
  pub filled : Filled (λ j. is_boolean_byte (opens j) (get_or s (from + j * 1) 0)) (λ j. eqb (get_or s (from + j * 1) 0) 1) false i
      (λ j. get_or (bits limit.all_booleans mask) j false)

module _ {s : List ℕ} {from : ℕ} {opens : ℕ → Bool} where
  pub flags-none : FlagsTo s from opens 0 0
  unfolding bits
  flags-none = record { filled = filled_none (λ j. get_or-replicate-same limit.all_booleans j false) }

  pub flags-more : {i mask : ℕ} (m : ℕ) → FlagsTo s from opens i mask → i < limit.all_booleans
      → is_boolean_byte (opens i) (get_or s (from + i) 0) ≡ true
      → bits limit.all_booleans m ≡ joined i (get_or s (from + i) 0) (bits limit.all_booleans mask) → FlagsTo s from opens (i + 1) m
  flags-more {i} {mask} m f l t e =
      let p : from + i ≡ from + i * 1 = omega arith in
      let k : i < length (bits limit.all_booleans mask) = omega (arith, length-bits limit.all_booleans mask) in
      record {
        filled = filled_more f.filled (rw (sym p) t)
            (rw e (joined-here i (get_or s (from + i) 0) (bits limit.all_booleans mask) k (f.filled.beyond i (omega arith)))
            ∙ ap (λ (at : ℕ). eqb (get_or s at 0) 1) p)
            (λ j o. rw e (joined-other i (get_or s (from + i) 0) (bits limit.all_booleans mask) j o));
      }

  passes : {i mask : ℕ} → FlagsTo s from opens i mask → (j : ℕ) → j < i
      → is_boolean_byte (opens (0 + j)) (get_or s (from + j * 1) 0) ≡ true
  passes f j l = let z : 0 + j ≡ j = omega arith in rw z (f.filled.passed j l)

  pub flags-bad : {i mask count : ℕ} → FlagsTo s from opens i mask → i < count → from + count ≤ length s
      → is_boolean_byte (opens i) (get_or s (from + i) 0) ≡ false
      → RefusedBooleans s from count opens (from + i)
  flags-bad {i} {mask} {count} f l h t =
      let p : from + i ≡ from + i * 1 = omega arith in
      record {
        same = each-bad (flag-tested s opens) i count 0 from l (omega arith) (passes f)
            (let z : 0 + i ≡ i = omega arith in rw (sym p, z) t) ∙ rw (sym p);
      }

  pub flags-done : {i mask count : ℕ} → FlagsTo s from opens i mask → i ≡ count → from + count ≤ length s
      → ReadBooleans s from count opens mask
  flags-done {i} {mask} {count} f e h =
      let p : from + count * 1 ≡ from + count = omega arith in
      let g : FlagsTo s from opens count mask = rw e at f in
      record {
        same = each-good (flag-tested s opens) count 0 from (omega arith) (passes g) ∙ rw p;
        members = filled-values (λ at. get_or s at 0) 1 0 (λ n. eqb n 1) count from g.filled;
      }
