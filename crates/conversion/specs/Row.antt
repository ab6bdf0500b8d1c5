-- The bytes of a row of coefficients with its variables split, by their places in the problem.
use Rattle.std.specs.Prelude.{◌≡◌, refl, Bool, true, false, cond, ℕ, zero, suc, ◌+◌, ◌*◌, ◌-◌, ◌^◌, ◌≤◌, ◌<◌, length}
use Rattle.std.proofs.Common.{sym, ◌∙◌, ⊎_elim, eq-zero-or-pos, add-one, length-append}
use Rattle.std.proofs.Math.Path.{ap}
use mathlib.Core.List.{List, [], ◌∷◌, ◌++◌, append-nil, append_assoc}
use native.Mathlib.Omega.{arith}
use Rattle.rules.specs.Bytes.{to_bytes, to_unsigned, from_unsigned, field_at}
use Rattle.rules.specs.Convert.{turned, split_row}
use Rattle.theory_bytes.specs.Bytes.{length-to_bytes}
use Rattle.theory_bytes.specs.Amounts.{from_unsigned-low, from_unsigned-high}
use Rattle.problem_scan.specs.Values.{values_at, behind, behind-is}
use Rattle.problem_clauses.specs.Passes.{values-next, behind-next}
use Rattle.fields.specs.Field.{stored}
use Rattle.conversion.specs.Writing.{Wrote, wrote-++, wrote-word, Writing, writing_start, writing-done, writing-next, part-fits}

-- numbers of four bytes each
unfoldable pub word_bytes : List ℕ → List ℕ
word_bytes [] = []
word_bytes (n ∷ ns) = to_bytes 4 n ++ word_bytes ns

pub words-++ : (ms ns : List ℕ) → word_bytes (ms ++ ns) ≡ word_bytes ms ++ word_bytes ns
unfolding word_bytes
words-++ [] ns = refl
words-++ (m ∷ ms) ns = rw (words-++ ms ns) (sym (append_assoc (to_bytes 4 m) (word_bytes ms) (word_bytes ns)))

-- a coefficient that is kept, or its halves
abbrev pub halves_of : Bool → ℕ → List ℕ
halves_of kept n = cond kept (n ∷ []) (n ∷ turned n ∷ [])

unfoldable pub half_bytes : Bool → ℕ → List ℕ
half_bytes kept n = word_bytes (halves_of kept n)

-- k coefficients from number f on, at their places
unfoldable pub row_at : (ℕ → Bool) → List ℕ → ℕ → ℕ → ℕ → List ℕ
row_at keeps q f k at = word_bytes (split_row keeps f (values_at (λ i. field_at i 4 q) 4 k at))

-- ---- one coefficient
-- its sign turned, by its 32 bits
pub turned_zero : (n : ℕ) → n ≡ 0 → 0 ≡ turned n
unfolding turned to_unsigned from_unsigned
turned_zero n e = rw e

pub turned-other : (n : ℕ) → (n ≡ 0 → ⊥) → n < 2 ^ 32 → 4294967296 - n ≡ turned n
unfolding turned to_unsigned
turned-other zero h l = absurd (h refl)
turned-other (suc n) h l = ⊎_elim
    (λ k. rw (from_unsigned-high (suc n) (omega arith)) (omega arith))
    (λ k. rw (from_unsigned-low (suc n) (omega arith)) (omega arith))
    (eq-zero-or-pos (2147483648 - suc n))

pub half_length : (kept : Bool) (n : ℕ) → length (half_bytes kept n) ≡ 4 * cond kept 1 2
unfolding half_bytes word_bytes
half_length true n = rw (append-nil (to_bytes 4 n)) (length-to_bytes 4 n)
half_length false n =
    rw (append-nil (to_bytes 4 (turned n)))
    (omega (arith, length-append (to_bytes 4 n) (to_bytes 4 (turned n)), length-to_bytes 4 n, length-to_bytes 4 (turned n)))

pub half-both : (kept : Bool) (n : ℕ) → kept ≡ false → length (half_bytes kept n) ≡ 8
half-both kept n e = rw e (half_length false n)

pub half-least : (kept : Bool) (n : ℕ) → 4 ≤ length (half_bytes kept n)
half-least true n = omega (arith, half_length true n)
half-least false n = omega (arith, half_length false n)

module _ (n to : ℕ) (old : List ℕ) where
  pub wrote_kept : {new : List ℕ} (kept : Bool) → kept ≡ true → new ≡ stored to (to_bytes 4 n) old
      → Wrote old to (half_bytes kept n) new (to + 4)
  unfolding half_bytes word_bytes
  wrote_kept kept k e = rw (k, append-nil (to_bytes 4 n)) (wrote-word to n e)

  pub wrote-both : {mid new : List ℕ} (kept : Bool) (m : ℕ) → kept ≡ false → to ≤ length old → m ≡ turned n
      → mid ≡ stored to (to_bytes 4 n) old → new ≡ stored (to + 4) (to_bytes 4 m) mid → Wrote old to (half_bytes kept n) new (to + 8)
  unfolding half_bytes word_bytes
  wrote-both {mid} {new} kept m k h t e d =
      let z : to + 4 + 4 ≡ to + 8 = omega arith in
      rw (k, append-nil (to_bytes 4 (turned n)), ← z) (wrote-++ h (wrote-word to n e) (rw t at (wrote-word (to + 4) m d)))

-- ---- a row: the loop
module _ (keeps : ℕ → Bool) (q : List ℕ) where
  row_next : (f k at : ℕ) → 0 < k
      → row_at keeps q f k at ≡ half_bytes (keeps f) (field_at at 4 q) ++ row_at keeps q (f + 1) (k - 1) (at + 4)
  unfolding row_at split_row half_bytes
  row_next f k at h =
      ap (λ (ns : List ℕ). word_bytes (split_row keeps f ns)) (values-next (λ i. field_at i 4 q) 4 at k h)
      ∙ words-++ (halves_of (keeps f) (field_at at 4 q)) (split_row keeps (suc f) (values_at (λ i. field_at i 4 q) 4 (k - 1) (at + 4)))
      ∙ rw (add-one f)

  pub record Filling (old : List ℕ) (to r from : ℕ) (out : List ℕ) (next at f : ℕ) : Type 0 where
    pub few : f ≤ r
    pub end : behind 4 (r - f) at ≡ behind 4 r from
    pub writing : Writing old to (row_at keeps q 0 r from) out next (row_at keeps q f (r - f) at)

  pub filling-start : (old : List ℕ) (to r from : ℕ) → to + length (row_at keeps q 0 r from) ≤ length old
      → Filling old to r from old to from 0
  filling-start old to r from h =
      let e : r - 0 ≡ r = omega arith in
      record { few = omega arith; end = rw e; writing = rw e (writing_start old to (row_at keeps q 0 r from) h) }

  module _ {old : List ℕ} {to r from : ℕ} {out : List ℕ} {next at f : ℕ} (run : Filling old to r from out next at f) where
    pub filling-done : r ≤ f → Wrote old to (row_at keeps q 0 r from) out next
    unfolding row_at values_at split_row word_bytes
    filling-done h = let e : r - f ≡ 0 = omega arith in writing-done (rw e at run.writing)

    module _ (more : f < r) where
      pub filling-within : at + 4 ≤ behind 4 r from
      filling-within = omega (arith, run.end, behind-is 4 (r - f) at)

      abbrev one : List ℕ
      one = half_bytes (keeps f) (field_at at 4 q)

      abbrev others : List ℕ
      others = row_at keeps q (f + 1) (r - f - 1) (at + 4)

      opened : Writing old to (row_at keeps q 0 r from) out next (one ++ others)
      opened = rw (row_next f (r - f) at (omega arith)) at run.writing

      -- the coefficient, and whether it is kept
      module _ (kept : Bool) (n : ℕ) (is : kept ≡ keeps f) (bits : n ≡ field_at at 4 q) where
        pub filling-fits : next + length (half_bytes kept n) ≤ length out
        filling-fits = rw (is, bits) (part-fits one others opened)

        pub filling-next : {new : List ℕ} {later : ℕ} → Wrote out next (half_bytes kept n) new later
            → Filling old to r from new later (at + 4) (f + 1)
        filling-next w =
            let e : r - (f + 1) ≡ r - f - 1 = omega arith in
            record {
              few = omega arith;
              end = rw e (sym (behind-next 4 at (r - f) (omega arith)) ∙ run.end);
              writing = rw e (writing-next one others opened (rw (is, bits) at w));
            }
