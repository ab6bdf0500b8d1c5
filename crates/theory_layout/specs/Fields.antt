-- Fields of a part of the bytes, bytes told by their fields, and the bits of a number.
use Rattle.std.specs.Prelude.{◌≡◌, refl, true, false, cond, List, [], ◌∷◌, ◌++◌, ℕ, zero, suc, ◌+◌, ◌*◌, ◌/◌, ◌%◌, ◌^◌, ◌≤◌, ◌<◌, get_or}
use Rattle.std.specs.Prelude.{take, drop, replicate}
use Rattle.std.proofs.Math.Path.{sym}
use Rattle.std.proofs.Common.{ap, ◌∙◌, arith, take-take, drop-drop, take-add}
use Rattle.std.proofs.Math.Nat.{pow-succ', div-div-eq-div-mul, zero-div}
use Rattle.std.proofs.Math.ListN.{length, length-drop}
use Rattle.std.proofs.Math.Seq.{drop-nil, length-take-le}
use Rattle.rules.specs.Bytes.{to_bytes, from_bytes, field_at}
use Rattle.rules.specs.Lines.{Booleans}
use Rattle.rules.specs.Steps.{mask}
use Rattle.theory_bytes.specs.Bytes.{AllBytes, to_bytes-from_bytes}

-- ---- a part
take-drop-take : (k size n : ℕ) (xs : List ℕ) → k + size ≤ n → take size (drop k (take n xs)) ≡ take size (drop k xs)
take-drop-take zero size n xs h = take-take size n xs (omega arith)
take-drop-take (suc k) size zero xs h = absurd (omega arith)
take-drop-take (suc k) size (suc n) [] h = refl
take-drop-take (suc k) size (suc n) (x ∷ xs) h = take-drop-take k size n xs (omega arith)

-- of n bytes from a place on
pub field-part : (bytes : List ℕ) (at n k size : ℕ) → k + size ≤ n → field_at k size (take n (drop at bytes)) ≡ field_at (at + k) size bytes
unfolding field_at
field-part bytes at n k size h = ap from_bytes (take-drop-take k size n (drop at bytes) h ∙ ap (take size) (drop-drop k at bytes))

pub field-drop : (bytes : List ℕ) (at k size : ℕ) → field_at k size (drop at bytes) ≡ field_at (at + k) size bytes
unfolding field_at
field-drop bytes at k size = ap (λ (xs : List ℕ). from_bytes (take size xs)) (drop-drop k at bytes)

-- ---- zeros
pub field-zeros : (n k : ℕ) → field_at k 1 (replicate n 0) ≡ 0
unfolding field_at from_bytes
field-zeros zero k = rw (drop-nil {A = ℕ} k)
field-zeros (suc n) zero = refl
field-zeros (suc n) (suc k) = field-zeros n k

pub zeros-before : (n j : ℕ) (rest : List ℕ) → j < n → field_at j 1 (replicate n 0 ++ rest) ≡ 0
unfolding field_at from_bytes
zeros-before zero j rest h = absurd (omega arith)
zeros-before (suc n) zero rest h = refl
zeros-before (suc n) (suc j) rest h = zeros-before n j rest (omega arith)

-- ---- bytes are told by their fields
pub take-bytes : (n : ℕ) (xs : List ℕ) → AllBytes xs → AllBytes (take n xs)
take-bytes zero xs h = tt
take-bytes (suc n) [] h = tt
take-bytes (suc n) (x ∷ xs) h = (h.0, take-bytes n xs h.1)

pub drop-bytes : (n : ℕ) (xs : List ℕ) → AllBytes xs → AllBytes (drop n xs)
drop-bytes zero xs h = h
drop-bytes (suc n) [] h = tt
drop-bytes (suc n) (x ∷ xs) h = drop-bytes n xs h.1

module _ (xs ys : List ℕ) (bx : AllBytes xs) (by : AllBytes ys) where
  field-determines : (at k : ℕ) → at + k ≤ length xs → at + k ≤ length ys → field_at at k xs ≡ field_at at k ys
      → take k (drop at xs) ≡ take k (drop at ys)
  unfolding field_at
  field-determines at k h g e =
      let m : length (take k (drop at xs)) ≡ k = length-take-le k (drop at xs) (omega (arith, length-drop at xs)) in
      let n : length (take k (drop at ys)) ≡ k = length-take-le k (drop at ys) (omega (arith, length-drop at ys)) in
      let p = to_bytes-from_bytes (take k (drop at xs)) (take-bytes k (drop at xs) (drop-bytes at xs bx)) in
      let q = to_bytes-from_bytes (take k (drop at ys)) (take-bytes k (drop at ys) (drop-bytes at ys by)) in
      sym p ∙ (λ i. to_bytes ((m ∙ sym n) i) (e i)) ∙ q

  -- a field more
  pub grow : (at k : ℕ) → at + k ≤ length xs → at + k ≤ length ys → field_at at k xs ≡ field_at at k ys → take at xs ≡ take at ys
      → take (at + k) xs ≡ take (at + k) ys
  grow at k h g e t =
      rw (take-add at k xs, take-add at k ys) (let f = field-determines at k h g e in λ i. t i ++ f i)

-- ---- bits
halves : (n i : ℕ) → n / 2 ^ suc i ≡ n / 2 / 2 ^ i
halves n i = rw (pow-succ' 2 i) (sym (div-div-eq-div-mul n 2 (2 ^ i)))

pub mask-bit : (s : Booleans) (i : ℕ) → mask s / 2 ^ i % 2 ≡ cond (get_or s i false) 1 0
unfolding mask
mask-bit [] i = rw (zero-div (2 ^ i)) (omega arith)
mask-bit (true ∷ s) zero = omega arith
mask-bit (false ∷ s) zero = omega arith
mask-bit (true ∷ s) (suc i) = let e : (1 + 2 * mask s) / 2 ≡ mask s = omega arith in rw (halves (1 + 2 * mask s) i, e) (mask-bit s i)
mask-bit (false ∷ s) (suc i) = let e : (0 + 2 * mask s) / 2 ≡ mask s = omega arith in rw (halves (0 + 2 * mask s) i, e) (mask-bit s i)

pub bits-determine : (k m n : ℕ) → m < 2 ^ k → n < 2 ^ k → ((i : ℕ) → i < k → m / 2 ^ i % 2 ≡ n / 2 ^ i % 2) → m ≡ n
bits-determine zero m n h g e = omega arith
bits-determine (suc k) m n h g e =
    let low : m % 2 ≡ n % 2 = let z = e 0 (omega arith) in omega arith in
    let high : m / 2 ≡ n / 2 =
    bits-determine k (m / 2) (n / 2) (omega (arith, pow-succ' 2 k)) (omega (arith, pow-succ' 2 k))
    (λ i l. rw (halves m i, halves n i) at (e (suc i) (omega arith))) in
    omega arith
