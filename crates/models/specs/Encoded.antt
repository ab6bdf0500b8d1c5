-- The parts of a model's bytes, stored one behind the other.
use Rattle.std.specs.Prelude.{◌≡◌, Bool, false, ℕ, zero, suc, ◌+◌, ◌-◌, ◌≤◌, ◌<◌, get_or, replicate}
use Rattle.std.proofs.Math.Path.{refl, ap}
use Rattle.std.proofs.Common.{sym, ◌∙◌, add-one}
use mathlib.Core.List.{List, [], ◌∷◌, ◌++◌, append_assoc}
use native.Mathlib.Omega.{arith}
use Rattle.std.proofs.Math.ListN.{length, set, drop, length-append}
use Rattle.std.proofs.lemmas.List.Edits.{sets-eq}
use Rattle.rules_types.specs.Limits as limit
use Rattle.rules_types.specs.Layout as layout
use Rattle.rules.specs.Lists.{tabulate}
use Rattle.rules.specs.Bytes.{to_bytes, amount_bytes, padded}
use Rattle.rules.specs.Model.{boolean_byte, encode_model}
use Rattle.rules.specs.Meaning.{Assignment}
use Rattle.theory_lists.specs.Tabulated.{length-tabulate, tabulate-snoc}
use Rattle.theory_bytes.specs.Bytes.{length-to_bytes}
use Rattle.theory_bytes.specs.Amounts.{length-amount_bytes}
use Rattle.masks.specs.Mask.{bits, outside}
use Rattle.fields.specs.Field.{stored, length-stored, stored-++, byte-stored}

-- variable i's byte, of those in a mask; and the bytes of b Boolean variables
abbrev pub flag_byte : ℕ → ℕ → ℕ → ℕ
flag_byte mask occurring i = boolean_byte (outside occurring i) (get_or (bits limit.all_booleans mask) i false)

abbrev pub flag_bytes : ℕ → ℕ → ℕ → List ℕ
flag_bytes b mask occurring = tabulate b (flag_byte mask occurring)

-- one place more of a function
pub tabulate-stored : (at i : ℕ) (g : ℕ → ℕ) (s : List ℕ) → at + i < length (stored at (tabulate i g) s) → at ≤ length s
    → set (stored at (tabulate i g) s) (at + i) (g i) ≡ stored at (tabulate (i + 1) g) s
tabulate-stored at i g s h k =
    byte-stored at (at + i) (g i) (tabulate i g) s (ap (λ (n : ℕ). at + n) (length-tabulate i g)) h k
    ∙ ap (λ (x : List ℕ). stored at x s) (sym (ap (λ (n : ℕ). tabulate n g) (add-one i) ∙ tabulate-snoc i g))

drop-zeros : (n k : ℕ) → drop k (replicate {A = ℕ} n 0) ≡ replicate (n - k) 0
drop-zeros n zero = let e : n - 0 ≡ n = omega arith in ap (λ (m : ℕ). replicate {A = ℕ} m 0) (sym e)
drop-zeros zero (suc k) = let e : 0 - suc k ≡ 0 = omega arith in ap (λ (m : ℕ). replicate {A = ℕ} m 0) (sym e)
drop-zeros (suc n) (suc k) = let e : suc n - suc k ≡ n - k = omega arith in drop-zeros n k ∙ ap (λ (m : ℕ). replicate {A = ℕ} m 0) (sym e)

-- ---- all parts, over zeros
module _ (b r : ℕ) (opens : ℕ → Bool) (χ : Assignment) (hb : b ≤ limit.booleans) (hr : r ≤ limit.rationals) where
  abbrev booleans : List ℕ
  booleans = tabulate b (λ i. boolean_byte (opens i) (χ.booleans i))

  abbrev numerators : List ℕ
  numerators = amount_bytes (tabulate r χ.numerators)

  abbrev denominator : List ℕ
  denominator = to_bytes 4 χ.denominator

  abbrev zeros : List ℕ
  zeros = replicate limit.model_bytes 0

  over_zeros : (x : List ℕ) → stored 0 x zeros ≡ padded limit.model_bytes x
  unfolding padded
  over_zeros x = let e : 0 + length x ≡ length x = omega arith in ap (λ (k : ℕ). x ++ drop k zeros) e
      ∙ ap (λ (y : List ℕ). x ++ y) (drop-zeros limit.model_bytes (length x))

  front : (k : ℕ) (x y : List ℕ) → length x ≡ k → stored k y (stored 0 x zeros) ≡ stored 0 (x ++ y) zeros
  front k x y e = let i : 0 + length x ≡ k = omega arith in ap (λ (i : ℕ). stored i y (stored 0 x zeros)) (sym i)
      ∙ stored-++ 0 x y zeros (omega arith)

  pub encoded-is : stored (layout.model_numerators b) numerators
      (stored (layout.model_denominator b) denominator
      (set (stored layout.model_flags booleans (set zeros layout.model_booleans b))
      (layout.model_rationals b) r)) ≡ encode_model b r opens χ
  unfolding encode_model padded
  encoded-is =
      let two = b ∷ booleans in
      let three = two ++ (r ∷ []) in
      let four = three ++ denominator in
      let l₂ : length two ≡ layout.model_rationals b = omega (arith, length-tabulate b (λ i. boolean_byte (opens i) (χ.booleans i))) in
      let l₃ : length three ≡ layout.model_denominator b = length-append two (r ∷ []) ∙ omega arith in
      let l₄ : length four ≡ layout.model_numerators b = length-append three denominator
      ∙ omega (arith, length-to_bytes 4 χ.denominator) in
      let l₅ : length (four ++ numerators) ≤ limit.model_bytes = rw (length-append four numerators)
      (omega (arith, length-amount_bytes (tabulate r χ.numerators), length-tabulate r χ.numerators)) in
      let s₃ : set (stored 0 two zeros) (layout.model_rationals b) r ≡ stored 0 three zeros =
      byte-stored 0 (layout.model_rationals b) r two zeros (omega arith)
      (rw (length-stored 0 two zeros (omega arith)) (omega arith)) (omega arith) in
      let first : stored layout.model_flags booleans (set zeros layout.model_booleans b) ≡ stored 0 two zeros =
      ap (stored layout.model_flags booleans) (sets-eq (b ∷ []) zeros 0 (omega arith))
      ∙ front layout.model_flags (b ∷ []) booleans refl in
      ap (λ (s : List ℕ). stored (layout.model_numerators b) numerators
      (stored (layout.model_denominator b) denominator (set s (layout.model_rationals b) r))) first
      ∙ ap (λ (s : List ℕ). stored (layout.model_numerators b) numerators (stored (layout.model_denominator b) denominator s)) s₃
      ∙ ap (stored (layout.model_numerators b) numerators) (front (layout.model_denominator b) three denominator l₃)
      ∙ front (layout.model_numerators b) four numerators l₄
      ∙ over_zeros (four ++ numerators)
      ∙ ap (λ (x : List ℕ). padded limit.model_bytes (x ++ numerators)) (append_assoc two (r ∷ []) denominator)
