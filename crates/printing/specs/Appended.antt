-- Text made in a buffer, from a place on.
use Rattle.std.specs.Prelude.{◌≡◌, refl, List, [], ◌∷◌, ◌++◌, ℕ, ◌+◌, ◌≤◌, length, set, take, drop}
use Rattle.std.proofs.Common.{ap, ◌∙◌, arith, length-append, take_at}
use Rattle.std.proofs.lemmas.List.Edits.{sets-eq}
use Rattle.fields.specs.Field.{stored, length-stored, stored-++, stored-nothing, byte-stored}

-- the buffer holds the text from a place on, and is as before elsewhere; the place behind the text
pub record Appended (at : ℕ) (text old new : List ℕ) (next : ℕ) : Type 0 where
  pub ends : next ≡ at + length text
  pub bytes : new ≡ stored at text old

-- a word, and the byte behind it
abbrev pub ended : List ℕ → ℕ → List ℕ
ended word end = word ++ (end ∷ [])

-- one byte, a word, nothing, and one text behind another
pub appended-byte : (at end : ℕ) (old : List ℕ) → at + 1 ≤ length old → Appended at (end ∷ []) old (set old at end) (at + 1)
appended-byte at end old h = record { ends = refl; bytes = sets-eq (end ∷ []) old at h }

pub appended-word : (at end : ℕ) (word old new : List ℕ) → at + length word + 1 ≤ length old → new ≡ stored at word old
    → Appended at (ended word end) old (set new (at + length word) end) (at + length word + 1)
appended-word at end word old new h e =
    record {
      ends = omega (arith, length-append word (end ∷ []));
      bytes = ap (λ (s : List ℕ). set s (at + length word) end) e
          ∙ byte-stored at (at + length word) end word old refl (omega (arith, length-stored at word old (omega arith))) (omega arith);
    }

pub appended_nothing : (at : ℕ) (old : List ℕ) → Appended at [] old old at
appended_nothing at old = record { ends = omega arith; bytes = stored-nothing at old }

pub appended-++ : {at middle next : ℕ} {front back old new newer : List ℕ} → at ≤ length old → Appended at front old new middle
    → Appended middle back new newer next → Appended at (front ++ back) old newer next
appended-++ {at} {middle} {next} {front} {back} {old} {new} {newer} h a b =
    record {
      ends = omega (arith, a.ends, b.ends, length-append front back);
      bytes = b.bytes ∙ (λ i. stored (a.ends i) back (a.bytes i)) ∙ stored-++ at front back old h;
    }

-- ---- text from the start on: the first bytes, no more than there are
module _ {text old new : List ℕ} {next : ℕ} (a : Appended 0 text old new next) where
  length-text : length text ≡ next
  length-text = omega (arith, a.ends)

  pub taken : take next new ≡ text
  taken = ap (take next) a.bytes ∙ take_at text (drop (0 + length text) old) next length-text

  pub within : next ≤ length new
  within = omega (arith, length-text, ap length a.bytes, length-append text (drop (0 + length text) old))
