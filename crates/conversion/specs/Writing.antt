-- Bytes written one part after another: what is left to be written gives the whole.
use Rattle.std.specs.Prelude.{◌≡◌, refl, List, [], ◌∷◌, ◌++◌, length, set}
use Rattle.std.proofs.Common.{sym, ◌∙◌, length-append}
use Rattle.std.proofs.Math.Path.{ap}
use Prim.Native.Nat.{ℕ, zero, suc, ◌+◌, ◌-◌, ◌≤◌, ◌<◌}
use native.Mathlib.Omega.{arith}
use Rattle.std.proofs.lemmas.List.Edits.{sets-eq}
use Rattle.rules.specs.Bytes.{to_bytes}
use Rattle.theory_bytes.specs.Bytes.{length-to_bytes}
use Rattle.fields.specs.Field.{stored, length-stored, stored-++, stored-nothing}

-- bytes were written from a place on, and `next` is the place behind them
pub record Wrote (old : List ℕ) (to : ℕ) (bytes new : List ℕ) (next : ℕ) : Type 0 where
  pub same : new ≡ stored to bytes old
  pub behind : next ≡ to + length bytes

pub wrote-size : {old : List ℕ} {to : ℕ} {bytes new : List ℕ} {next : ℕ} → to + length bytes ≤ length old → Wrote old to bytes new next
    → length new ≡ length old
wrote-size {old} {to} {bytes} h w = ap length w.same ∙ length-stored to bytes old h

-- other bytes right behind them
pub wrote-++ : {old : List ℕ} {to : ℕ} {front mid : List ℕ} {at : ℕ} {back new : List ℕ} {next : ℕ} → to ≤ length old
    → Wrote old to front mid at → Wrote mid at back new next → Wrote old to (front ++ back) new next
wrote-++ {old} {to} {front} {mid} {at} {back} h a b =
    record {
      same = b.same ∙ rw (a.same, a.behind) (stored-++ to front back old h);
      behind = omega (arith, a.behind, b.behind, length-append front back);
    }

-- a number of four bytes, and one byte
pub wrote-word : {old : List ℕ} (to n : ℕ) {new : List ℕ} → new ≡ stored to (to_bytes 4 n) old → Wrote old to (to_bytes 4 n) new (to + 4)
wrote-word to n e = record { same = e; behind = omega (arith, length-to_bytes 4 n) }

pub wrote-byte : {old : List ℕ} (to v : ℕ) {new : List ℕ} → to < length old → new ≡ set old to v → Wrote old to (v ∷ []) new (to + 1)
wrote-byte {old} to v h e = record { same = e ∙ sets-eq (v ∷ []) old to (omega arith); behind = refl }

-- `rest` is left to be written from `at` on
pub record Writing (old : List ℕ) (to : ℕ) (whole out : List ℕ) (at : ℕ) (rest : List ℕ) : Type 0 where
  pub same : stored at rest out ≡ stored to whole old
  pub room : at + length rest ≤ length out
  pub end : at + length rest ≡ to + length whole
  pub size : length out ≡ length old

pub writing_start : (old : List ℕ) (to : ℕ) (whole : List ℕ) → to + length whole ≤ length old → Writing old to whole old to whole
writing_start old to whole h = record { same = refl; room = h; end = refl; size = refl }

module _ {old : List ℕ} {to : ℕ} {whole out : List ℕ} {at : ℕ} where
  pub writing-done : Writing old to whole out at [] → Wrote old to whole out at
  writing-done w = record { same = stored-nothing at out ∙ w.same; behind = omega (arith, w.end) }

  -- a part of it is written, and what comes next
  module _ (part rest : List ℕ) (w : Writing old to whole out at (part ++ rest)) where
    pub part-fits : at + length part ≤ length out
    part-fits = omega (arith, w.room, length-append part rest)

    pub writing-next : {new : List ℕ} {next : ℕ} → Wrote out at part new next → Writing old to whole new next rest
    writing-next {new} {next} p =
        record {
          same = rw (p.same, p.behind) (stored-++ at part rest out (omega (arith, w.room)) ∙ w.same);
          room = omega (arith, p.behind, w.room, length-append part rest, wrote-size part-fits p);
          end = omega (arith, p.behind, w.end, length-append part rest);
          size = wrote-size part-fits p ∙ w.size;
        }

-- ---- parts one behind another, each made from its place in the problem
module _ (one : ℕ → List ℕ) (next : ℕ → ℕ) where
  unfoldable pub parts_from : ℕ → ℕ → List ℕ
  parts_from zero at = []
  parts_from (suc k) at = one at ++ parts_from k (next at)

  parts_next : (k at : ℕ) → 0 < k → parts_from k at ≡ one at ++ parts_from (k - 1) (next at)
  unfolding parts_from
  parts_next k at h = let e : k ≡ suc (k - 1) = omega arith in ap (λ (i : ℕ). parts_from i at) e

-- the place behind k of them
pub record Places (next : ℕ → ℕ) (last : ℕ → ℕ → ℕ) : Type 0 where
  pub later : (k at : ℕ) → 0 < k → last k at ≡ last (k - 1) (next at)
  pub reach : (k at : ℕ) → 0 < k → next at ≤ last k at

-- the loop: of `count` parts from `from` on, `left` are left, from `at` on
module _ (one : ℕ → List ℕ) {next : ℕ → ℕ} {last : ℕ → ℕ → ℕ} (places : Places next last) where
  pub record Filling (old : List ℕ) (to count from : ℕ) (out : List ℕ) (place at left : ℕ) : Type 0 where
    pub end : last left at ≡ last count from
    pub writing : Writing old to (parts_from one next count from) out place (parts_from one next left at)

  pub filling-start : (old : List ℕ) (to count from : ℕ) → to + length (parts_from one next count from) ≤ length old
      → Filling old to count from old to from count
  filling-start old to count from h = record { end = refl; writing = writing_start old to (parts_from one next count from) h }

  module _ {old : List ℕ} {to count from : ℕ} {out : List ℕ} {place at left : ℕ} (run : Filling old to count from out place at left) where
    pub filling-done : left ≤ 0 → Wrote old to (parts_from one next count from) out place
    unfolding parts_from
    filling-done h = let e : left ≡ 0 = omega arith in writing-done (rw e at run.writing)

    module _ (more : 0 < left) where
      pub filling-within : next at ≤ last count from
      filling-within = omega (arith, places.reach left at more, run.end)

      abbrev others : List ℕ
      others = parts_from one next (left - 1) (next at)

      opened : Writing old to (parts_from one next count from) out place (one at ++ others)
      opened = rw (parts_next one next left at more) at run.writing

      pub filling-fits : place + length (one at) ≤ length out
      filling-fits = part-fits (one at) others opened

      pub filling-next : {new : List ℕ} {behind : ℕ} → Wrote out place (one at) new behind
          → Filling old to count from new behind (next at) (left - 1)
      filling-next w = record {
        end = sym (places.later left at more) ∙ run.end;
        writing = writing-next (one at) others opened w;
      }
