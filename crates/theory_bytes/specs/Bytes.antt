-- Numbers in bytes: k bytes hold the numbers below 256^k, and reading undoes writing, both ways.
use Rattle.std.specs.Prelude.{◌≡◌, refl, List, [], ◌∷◌, ℕ, zero, suc, ◌+◌, ◌*◌, ◌-◌, ◌/◌, ◌%◌, ◌^◌, ◌≤◌, ◌<◌, length, get_or, replicate}
use Rattle.std.proofs.Common.{ap, arith, length-append}
use Rattle.std.proofs.Math.Nat.{pow-succ'}
use Rattle.std.proofs.lemmas.List.{length-replicate}
use Rattle.rules.specs.Bytes.{to_bytes, from_bytes, padded}
use Rattle.theory_lists.specs.All.{All, all_append}

-- every element is a byte
abbrev pub AllBytes : List ℕ → Type 0
AllBytes bytes = All (λ n. n < 256) bytes

-- what is known of a slice's elements by their places
pub all-bytes : (s : List ℕ) → ((i : ℕ) → get_or s i 0 < 256) → AllBytes s
all-bytes [] h = tt
all-bytes (x ∷ s) h = (h 0, all-bytes s (λ i. h (suc i)))

pub length-to_bytes : (k n : ℕ) → length (to_bytes k n) ≡ k
unfolding to_bytes
length-to_bytes zero n = refl
length-to_bytes (suc k) n = ap suc (length-to_bytes k (n / 256))

pub bytes-to_bytes : (k n : ℕ) → AllBytes (to_bytes k n)
unfolding to_bytes
bytes-to_bytes zero n = tt
bytes-to_bytes (suc k) n = (omega arith, bytes-to_bytes k (n / 256))

pub from_bytes-< : (xs : List ℕ) → AllBytes xs → from_bytes xs < 256 ^ length xs
unfolding from_bytes
from_bytes-< [] h = omega arith
from_bytes-< (x ∷ xs) h = omega (arith, from_bytes-< xs h.1, pow-succ' 256 (length xs))

-- ---- there and back
pub from_bytes-to_bytes : (k n : ℕ) → n < 256 ^ k → from_bytes (to_bytes k n) ≡ n
unfolding to_bytes from_bytes
from_bytes-to_bytes zero n h = omega arith
from_bytes-to_bytes (suc k) n h = rw (from_bytes-to_bytes k (n / 256) (omega (arith, pow-succ' 256 k))) (omega arith)

pub to_bytes-from_bytes : (xs : List ℕ) → AllBytes xs → to_bytes (length xs) (from_bytes xs) ≡ xs
unfolding to_bytes from_bytes
to_bytes-from_bytes [] h = refl
to_bytes-from_bytes (x ∷ xs) h =
    let low : (x + 256 * from_bytes xs) % 256 ≡ x = omega arith in
    let high : (x + 256 * from_bytes xs) / 256 ≡ from_bytes xs = omega arith in
    rw (low, high, to_bytes-from_bytes xs h.1)

-- ---- zeros up to a length
pub length-padded : (n : ℕ) (bytes : List ℕ) → length bytes ≤ n → length (padded n bytes) ≡ n
unfolding padded
length-padded n bytes h = simp (length-append, length-replicate) (omega arith)

zeros : (n : ℕ) → AllBytes (replicate n 0)
zeros zero = tt
zeros (suc n) = (omega arith, zeros n)

pub bytes-padded : (n : ℕ) (bytes : List ℕ) → AllBytes bytes → AllBytes (padded n bytes)
unfolding padded
bytes-padded n bytes h = all_append (λ n. n < 256) bytes (replicate (n - length bytes) 0) h (zeros (n - length bytes))
