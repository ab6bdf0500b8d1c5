-- What is stored at a place of bytes: it is read back, and joins what is stored next to it; and amounts by the machine's arithmetic.
use Rattle.std.specs.Prelude.{◌≡◌, refl, true, false, List, [], ◌∷◌, ◌++◌, ℤ, pos, negsuc, nat_abs, ◌-ℤ◌, T, length, set, take, drop}
use Rattle.std.proofs.Common.{sym, ap, ◌∙◌, subst, append_assoc, append-nil, add_assoc, add-one, ltb-true, length-append, length-take}
use Rattle.std.proofs.Common.{length-drop, take-append-drop, length-set, drop-drop, take_at, drop_at, length-take-le}
use Prim.Native.Nat.{ℕ, suc, ◌+◌, ◌-◌, ◌/◌, ◌%◌, ◌^◌, ◌≤◌, ◌<◌}
use native.Mathlib.Omega.{arith}
use Rattle.std.specs.Int.Signed.{lt_z}
use Rattle.std.proofs.lemmas.List.Edits.{sets-eq}
use Rattle.theory_integers.specs.Difference.{v, #, ◌⊖◌, ≡-by}
use Rattle.rules.specs.Bytes.{to_bytes, from_unsigned, to_unsigned}
use Rattle.theory_bytes.specs.Amounts.{from_unsigned-high}

-- the bytes written over those from a place on
abbrev pub stored : ℕ → List ℕ → List ℕ → List ℕ
stored at bytes s = take at s ++ bytes ++ drop (at + length bytes) s

-- ---- amounts, as the machine computes them
pub from_unsigned-minus : (n : ℕ) → 2147483648 ≤ n → n < 2 ^ 32 → pos n -ℤ pos 4294967296 ≡ from_unsigned n
from_unsigned-minus n h l = ≡-by (# n ⊖ # 4294967296) (v (negsuc (4294967295 - n))) (omega arith) ∙ sym (from_unsigned-high n h)

pub to_unsigned-positive : (z : ℤ) → lt_z z (pos 0) ≡ false → to_unsigned z ≡ nat_abs z
unfolding to_unsigned
to_unsigned-positive (pos n) t = refl
to_unsigned-positive (negsuc n) t = absurd (subst T t tt)

pub to_unsigned-negative : (z : ℤ) → lt_z z (pos 0) ≡ true → to_unsigned z ≡ 4294967296 - nat_abs z
unfolding to_unsigned
to_unsigned-negative (pos n) t = absurd (omega (arith, ltb-true n 0 t))
to_unsigned-negative (negsuc n) t = omega arith

-- two bytes set leave the length
pub length-sets : (s : List ℕ) (i x j y : ℕ) → length (set (set s i x) j y) ≡ length s
length-sets s i x j y = length-set (set s i x) j y ∙ length-set s i x

-- ---- the stores, one byte each
module _ (at n : ℕ) (s : List ℕ) where
  pub stored-2 : at + 2 ≤ length s → set (set s at (n % 256)) (at + 1) (n / 256 % 256) ≡ stored at (to_bytes 2 n) s
  unfolding to_bytes
  stored-2 h = rw (add-one at) (sets-eq (to_bytes 2 n) s at h)

  pub stored-4 : at + 4 ≤ length s
      → set (set (set (set s at (n % 256)) (at + 1) (n / 256 % 256)) (at + 2) (n / 65536 % 256)) (at + 3) (n / 16777216 % 256)
      ≡ stored at (to_bytes 4 n) s
  unfolding to_bytes
  stored-4 h =
      let i₁ : at + 1 ≡ suc at = omega arith in
      let i₂ : at + 2 ≡ suc (suc at) = omega arith in
      let i₃ : at + 3 ≡ suc (suc (suc at)) = omega arith in
      let n₂ : n / 65536 ≡ n / 256 / 256 = omega arith in
      let n₃ : n / 16777216 ≡ n / 256 / 256 / 256 = omega arith in
      rw (i₁, i₂, i₃, n₂, n₃) (sets-eq (to_bytes 4 n) s at h)

-- ---- what was stored: as long as before, read at its place, and joined with what is stored next to it
pub length-stored : (at : ℕ) (bytes s : List ℕ) → at + length bytes ≤ length s → length (stored at bytes s) ≡ length s
length-stored at bytes s h = simp (length-append, length-take, length-drop) (omega arith)

pub stored-++ : (at : ℕ) (front back s : List ℕ) → at ≤ length s
    → stored (at + length front) back (stored at front s) ≡ stored at (front ++ back) s
stored-++ at front back s h =
    let p = take at s ++ front in
    let i = at + length front in
    let n : length p ≡ i = length-append (take at s) front ∙ ap (λ (k : ℕ). k + length front) (length-take-le at s h) in
    let t : take i (stored at front s) ≡ p = take_at p (drop i s) i n in
    let d : drop (i + length back) (stored at front s) ≡ drop (i + length back) s =
    sym (drop-drop (length back) i (stored at front s)) ∙ ap (drop (length back)) (drop_at p (drop i s) i n)
    ∙ drop-drop (length back) i s in
    rw (t, d, length-append front back, ← add_assoc at (length front) (length back), append_assoc (take at s) front back)

-- nothing, and one byte more
pub stored-nothing : (at : ℕ) (s : List ℕ) → s ≡ stored at [] s
stored-nothing at s = let e : at + 0 ≡ at = omega arith in rw (append-nil (take at s), e) (sym (take-append-drop at s))

pub byte-stored : (at j v : ℕ) (x s : List ℕ) → at + length x ≡ j → j < length (stored at x s) → at ≤ length s
    → set (stored at x s) j v ≡ stored at (x ++ (v ∷ [])) s
byte-stored at j v x s e h k =
    sets-eq (v ∷ []) (stored at x s) j (omega arith)
    ∙ ap (λ (i : ℕ). stored i (v ∷ []) (stored at x s)) (sym e)
    ∙ stored-++ at x (v ∷ []) s k
