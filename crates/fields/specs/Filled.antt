-- Bytes, zeros and amounts stored from a place on, one after another: none yet, and one more.
use Rattle.std.specs.Prelude.{◌≡◌, refl, List, [], ◌∷◌, ◌++◌, ℕ, ◌+◌, ◌*◌, ◌-◌, ◌≤◌, ◌<◌, ℤ, pos, length, get_or, set, take, replicate}
use Rattle.std.proofs.Common.{sym, ap, ◌∙◌, append_assoc, append-nil, add-one, arith, take-suc, length-take-le}
use Rattle.std.proofs.lemmas.List.{length-replicate, replicate-append-replicate}
use Rattle.rules.specs.Bytes.{to_bytes, amount_bytes, to_unsigned}
use Rattle.theory_bytes.specs.Amounts.{length-amount_bytes}
use Rattle.fields.specs.Field.{stored, length-stored, stored-++, stored-nothing, byte-stored}

-- ---- bytes
pub bytes-more : (at j : ℕ) (bytes s : List ℕ) → j < length bytes → at + length bytes ≤ length s
    → set (stored at (take j bytes) s) (at + j) (get_or bytes j 0) ≡ stored at (take (j + 1) bytes) s
bytes-more at j bytes s h k =
    let l : length (take j bytes) ≡ j = length-take-le j bytes (omega arith) in
    byte-stored at (at + j) (get_or bytes j 0) (take j bytes) s (omega arith)
    (omega (arith, length-stored at (take j bytes) s (omega arith))) (omega arith)
    ∙ ap (λ (y : List ℕ). stored at y s) (sym (rw (add-one j) (take-suc bytes j 0 h)))

-- ---- zeros
pub zeros-none : (at : ℕ) (s : List ℕ) → s ≡ stored at (replicate (at - at) 0) s
zeros-none at s = let z : at - at ≡ 0 = omega arith in rw z (stored-nothing at s)

pub zeros-more : (at j : ℕ) (s : List ℕ) → at ≤ j → j < length s
    → set (stored at (replicate (j - at) 0) s) j 0 ≡ stored at (replicate (j + 1 - at) 0) s
zeros-more at j s h k =
    let n = j - at in
    let x = replicate {A = ℕ} n 0 in
    let l : length x ≡ n = length-replicate {A = ℕ} n 0 in
    let e : n + 1 ≡ j + 1 - at = omega arith in
    byte-stored at j 0 x s (omega arith) (omega (arith, length-stored at x s (omega arith))) (omega arith)
    ∙ ap (λ (y : List ℕ). stored at y s) (replicate-append-replicate {A = ℕ} n 1 0 ∙ ap (λ (m : ℕ). replicate {A = ℕ} m 0) e)

-- ---- amounts
pub amount_bytes-++ : (xs ys : List ℤ) → amount_bytes (xs ++ ys) ≡ amount_bytes xs ++ amount_bytes ys
unfolding amount_bytes
amount_bytes-++ [] ys = refl
amount_bytes-++ (x ∷ xs) ys = rw (amount_bytes-++ xs ys) (sym (append_assoc (to_bytes 4 (to_unsigned x)) (amount_bytes xs)
    (amount_bytes ys)))

pub amounts-none : (at : ℕ) (s : List ℕ) → s ≡ stored at (amount_bytes []) s
unfolding amount_bytes
amounts-none at s = stored-nothing at s

pub amounts-more : (at : ℕ) (zs : List ℤ) (i : ℕ) (s : List ℕ) → i < length zs → at ≤ length s
    → stored (at + 4 * i) (to_bytes 4 (to_unsigned (get_or zs i (pos 0)))) (stored at (amount_bytes (take i zs)) s)
    ≡ stored at (amount_bytes (take (i + 1) zs)) s
unfolding amount_bytes
amounts-more at zs i s h l =
    let n : length (amount_bytes (take i zs)) ≡ 4 * i = length-amount_bytes (take i zs)
    ∙ ap (λ (k : ℕ). 4 * k) (length-take-le i zs (omega arith)) in
    let e : to_bytes 4 (to_unsigned (get_or zs i (pos 0))) ++ [] ≡ to_bytes 4 (to_unsigned (get_or zs i (pos 0))) =
    append-nil (to_bytes 4 (to_unsigned (get_or zs i (pos 0)))) in
    rw (
      ← n,
      stored-++ at (amount_bytes (take i zs)) (to_bytes 4 (to_unsigned (get_or zs i (pos 0)))) s l,
      add-one i,
      take-suc zs i (pos 0),
      amount_bytes-++ (take i zs) (get_or zs i (pos 0) ∷ []),
      e,
    )
