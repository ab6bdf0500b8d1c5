-- A field at a place of a slice: cut short, refused by its test, or read.
use Rattle.std.specs.Prelude.{◌≡◌, Bool, true, false, List, drop}
use Rattle.std.proofs.Math.Path.{sym, ap}
use Rattle.std.proofs.Common.{◌∙◌, eq-zero-or-pos, add-one, drop-cons}
use Rattle.std.proofs.Math.Logic.{⊎_elim}
use Prim.Native.Nat.{ℕ, zero, suc, ◌+◌, ◌*◌, ◌-◌, ◌≤◌, ◌<◌}
use native.Mathlib.Omega.{arith}
use Rattle.std.proofs.Math.ListN.{length, get_or}
use Rattle.std.proofs.Math.Seq.{drop-length}
use Rattle.rules_types.specs.declared.answers.Refusal.{Refusal}
use Rattle.rules_types.specs.declared.answers.Refusal.TheVariants as refusal
use Rattle.rules.specs.Bytes.{field_at}
use Rattle.rules.specs.Problem.{Reader, fault, got, after, byte, number, tested, field}
use Rattle.theory_bytes.specs.Fields.{field_at-next, field_at-none}

module _ (q : List ℕ) where
  byte-there : (at : ℕ) → at < length q → byte (drop at q) at ≡ got (get_or q at 0) (drop (suc at) q) (suc at)
  unfolding byte
  byte-there at h = rw (drop-cons q at 0)

  byte-short : byte (drop (length q) q) (length q) ≡ fault refusal.Truncated (length q)
  unfolding byte
  byte-short = rw drop-length

  -- ---- a number of k bytes
  pub number-there : (k at : ℕ) → at + k ≤ length q → number k (drop at q) at ≡ got (field_at at k q) (drop (at + k) q) (at + k)
  unfolding number after
  number-there zero at h = let e : at + 0 ≡ at = omega arith in rw (field_at-none at q, e)
  number-there (suc k) at h =
      let e : suc at + k ≡ at + suc k = omega arith in
      let v : get_or q at 0 + 256 * field_at (suc at) k q ≡ field_at at (suc k) q =
      ap (λ (i : ℕ). get_or q at 0 + 256 * field_at i k q) (sym (add-one at)) ∙ sym (field_at-next at k q (omega arith)) in
      rw (byte-there at (omega arith), number-there k (suc at) (omega arith), v, e)

  pub number_short : (k at : ℕ) → at ≤ length q → length q < at + k → number k (drop at q) at ≡ fault refusal.Truncated (length q)
  unfolding number after
  number_short zero at h l = absurd (omega arith)
  number_short (suc k) at h l = ⊎_elim
      (λ z. let e : at ≡ length q = omega arith in rw (e, byte-short))
      (λ z. rw (byte-there at (omega arith), number_short k (suc at) (omega arith) (omega arith)))
      (eq-zero-or-pos (length q - at))

  -- ---- with its test
  module _ (k : ℕ) (good : ℕ → Bool) (f : Refusal) (at : ℕ) where
    pub field-short : at ≤ length q → length q < at + k → field k good f (drop at q) at ≡ fault refusal.Truncated (length q)
    unfolding field after
    field-short h l = rw (number_short k at h l)

    pub field-bad : at + k ≤ length q → good (field_at at k q) ≡ false → field k good f (drop at q) at ≡ fault f at
    unfolding field after tested
    field-bad h e = rw (number-there k at h, e)

    pub field-good : at + k ≤ length q → good (field_at at k q) ≡ true
        → field k good f (drop at q) at ≡ got (field_at at k q) (drop (at + k) q) (at + k)
    unfolding field after tested
    field-good h e = rw (number-there k at h, e)

    -- and what comes next
    module _ {A : Type 0} (next : ℕ → Reader A) where
      pub then-short : at ≤ length q → length q < at + k → after (field k good f (drop at q) at) next ≡ fault refusal.Truncated (length q)
      unfolding after
      then-short h l = rw (field-short h l)

      pub then-bad : at + k ≤ length q → good (field_at at k q) ≡ false → after (field k good f (drop at q) at) next ≡ fault f at
      unfolding after
      then-bad h e = rw (field-bad h e)

      pub then-good : at + k ≤ length q → good (field_at at k q) ≡ true
          → after (field k good f (drop at q) at) next ≡ next (field_at at k q) (drop (at + k) q) (at + k)
      unfolding after
      then-good h e = rw (field-good h e)
