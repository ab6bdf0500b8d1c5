-- Amounts in four bytes: each of the 32-bit signed numbers comes back, and a list of amounts is told from every other as long.
use Rattle.std.specs.Prelude.{◌≡◌, refl, List, [], ◌∷◌, ◌++◌, ℕ, ◌*◌, ◌-◌, ◌^◌, ◌≤◌, ◌<◌, ℤ, pos, negsuc, nat_abs, length}
use Rattle.std.proofs.Common.{sym, ap, ◌∙◌, ⊎_elim, append_assoc, eq-zero-or-pos, arith, length-append, lt-ltb, le-ltb}
use Rattle.std.specs.Int.Signed.{mag}
use Rattle.rules.specs.Bytes.{to_bytes, from_bytes, from_unsigned, to_unsigned, amount_bytes}
use Rattle.theory_lists.specs.All.{All, all_append}
use Rattle.theory_lists.specs.Equal.{append-injective}
use Rattle.theory_vectors.specs.Amounts.{Small}
use Rattle.theory_bytes.specs.Bytes.{AllBytes, length-to_bytes, bytes-to_bytes, from_bytes-to_bytes}

-- ---- as a number of 32 bits
pub from_unsigned-low : (n : ℕ) → n < 2147483648 → from_unsigned n ≡ pos n
unfolding from_unsigned
from_unsigned-low n h = rw (lt-ltb n 2147483648 h)

pub from_unsigned-high : (n : ℕ) → 2147483648 ≤ n → from_unsigned n ≡ negsuc (4294967295 - n)
unfolding from_unsigned
from_unsigned-high n h = rw (le-ltb n 2147483648 h)

-- of the 32-bit signed range: n for pos n and for negsuc n is below 2^31
pub to_unsigned-< : (z : ℤ) → mag z < 2 ^ 31 → to_unsigned z < 2 ^ 32
unfolding to_unsigned
to_unsigned-< (pos n) h = omega arith
to_unsigned-< (negsuc n) h = omega arith

pub from_unsigned-size : (n : ℕ) → nat_abs (from_unsigned n) ≤ 2 ^ 31
from_unsigned-size n = ⊎_elim
    (λ k. rw (from_unsigned-high n (omega arith)) (omega arith))
    (λ k. rw (from_unsigned-low n (omega arith)) (omega arith))
    (eq-zero-or-pos (2147483648 - n))

pub from_unsigned-to_unsigned : (z : ℤ) → mag z < 2 ^ 31 → from_unsigned (to_unsigned z) ≡ z
unfolding to_unsigned
from_unsigned-to_unsigned (pos n) h = from_unsigned-low n h
from_unsigned-to_unsigned (negsuc n) h =
    let e : 4294967295 - (4294967295 - n) ≡ n = omega arith in
    from_unsigned-high (4294967295 - n) (omega arith) ∙ ap negsuc e

pub to_unsigned-from_unsigned : (n : ℕ) → n < 2 ^ 32 → to_unsigned (from_unsigned n) ≡ n
unfolding to_unsigned
to_unsigned-from_unsigned n h = ⊎_elim
    (λ k. rw (from_unsigned-high n (omega arith)) (omega arith))
    (λ k. rw (from_unsigned-low n (omega arith)))
    (eq-zero-or-pos (2147483648 - n))

pub from_unsigned-injective : (m n : ℕ) → m < 2 ^ 32 → n < 2 ^ 32 → from_unsigned m ≡ from_unsigned n → m ≡ n
from_unsigned-injective m n h k e = sym (to_unsigned-from_unsigned m h) ∙ ap to_unsigned e ∙ to_unsigned-from_unsigned n k

pub zero-unsigned : (n : ℕ) → from_unsigned n ≡ pos 0 → n ≡ 0
zero-unsigned n e = ⊎_elim
    (λ k. absurd (let f = from_unsigned-high n (omega arith) in let z : ◌≡◌ {A = ℕ} 0 1 = cc in omega arith))
    (λ k. let f = from_unsigned-low n (omega arith) in cc) (eq-zero-or-pos (2147483648 - n))

pub amount-bytes : (z : ℤ) → mag z < 2 ^ 31 → from_unsigned (from_bytes (to_bytes 4 (to_unsigned z))) ≡ z
amount-bytes z h = rw (from_bytes-to_bytes 4 (to_unsigned z) (to_unsigned-< z h)) (from_unsigned-to_unsigned z h)

-- every amount is of that range
pub small-mag : (z : ℤ) → Small z → mag z < 2 ^ 31
small-mag (pos n) h = omega arith
small-mag (negsuc n) h = omega arith

-- ---- several
pub length-amount_bytes : (zs : List ℤ) → length (amount_bytes zs) ≡ 4 * length zs
unfolding amount_bytes
length-amount_bytes [] = refl
length-amount_bytes (z ∷ zs) = rw length-append (omega (arith, length-to_bytes 4 (to_unsigned z), length-amount_bytes zs))

pub bytes-amount_bytes : (zs : List ℤ) → AllBytes (amount_bytes zs)
unfolding amount_bytes
bytes-amount_bytes [] = tt
bytes-amount_bytes (z ∷ zs) =
    all_append (λ n. n < 256) (to_bytes 4 (to_unsigned z)) (amount_bytes zs) (bytes-to_bytes 4 (to_unsigned z)) (bytes-amount_bytes zs)

-- whatever follows
pub amount_bytes-injective : (zs ws : List ℤ) (x y : List ℕ) → length zs ≡ length ws → All Small zs → All Small ws
    → amount_bytes zs ++ x ≡ amount_bytes ws ++ y → zs ≡ ws
unfolding amount_bytes
amount_bytes-injective [] [] x y l h k e = refl
amount_bytes-injective [] (w ∷ ws) x y l h k e = absurd (omega arith)
amount_bytes-injective (z ∷ zs) [] x y l h k e = absurd (omega arith)
amount_bytes-injective (z ∷ zs) (w ∷ ws) x y l h k e =
    let bz = to_bytes 4 (to_unsigned z) in
    let bw = to_bytes 4 (to_unsigned w) in
    let f : bz ++ (amount_bytes zs ++ x) ≡ bw ++ (amount_bytes ws ++ y) =
    rw (← append_assoc bz (amount_bytes zs) x, ← append_assoc bw (amount_bytes ws) y) e in
    let p = append-injective bz bw (amount_bytes zs ++ x) (amount_bytes ws ++ y)
    (omega (arith, length-to_bytes 4 (to_unsigned z), length-to_bytes 4 (to_unsigned w))) f in
    let heads : z ≡ w =
    cc (ap (λ bs. from_unsigned (from_bytes bs)) p.0, amount-bytes z (small-mag z h.0), amount-bytes w (small-mag w k.0)) in
    let tails = amount_bytes-injective zs ws x y (omega arith) h.1 k.1 p.1 in
    λ i. heads i ∷ tails i
