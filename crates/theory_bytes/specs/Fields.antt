-- A field by its bytes, the lowest first.
use Rattle.std.specs.Prelude.{◌≡◌, refl, List, [], ◌∷◌, ℕ, zero, suc, ◌+◌, ◌*◌, ◌^◌, ◌≤◌, ◌<◌, length, get_or, take, drop}
use Rattle.std.proofs.Common.{◌∙◌, add-one, arith, drop-cons, get_or-drop}
use Rattle.std.proofs.Math.Nat.{pow-succ'}
use Rattle.rules.specs.Bytes.{from_bytes, field_at}

pub field_at-none : (at : ℕ) (s : List ℕ) → field_at at 0 s ≡ 0
unfolding field_at from_bytes
field_at-none at s = refl

pub field_at-next : (at k : ℕ) (s : List ℕ) → at < length s → field_at at (suc k) s ≡ get_or s at 0 + 256 * field_at (at + 1) k s
unfolding field_at from_bytes
field_at-next at k s h = rw (add-one at, drop-cons s at 0)

pub field_at-1 : (at : ℕ) (s : List ℕ) → at < length s → field_at at 1 s ≡ get_or s at 0
field_at-1 at s h = omega (arith, field_at-next at 0 s h, field_at-none (at + 1) s)

pub field_at-2 : (at : ℕ) (s : List ℕ) → at + 2 ≤ length s → field_at at 2 s ≡ get_or s at 0 + 256 * get_or s (at + 1) 0
field_at-2 at s h = omega (
  arith,
  field_at-next at 1 s (omega arith),
  field_at-next (at + 1) 0 s (omega arith),
  field_at-none (at + 1 + 1) s,
)

pub field_at-4 : (at : ℕ) (s : List ℕ) → at + 4 ≤ length s
    → field_at at 4 s ≡ get_or s at 0 + 256 * get_or s (at + 1) 0 + 65536 * get_or s (at + 2) 0 + 16777216 * get_or s (at + 3) 0
field_at-4 at s h =
    let e : at + 1 + 1 ≡ at + 2 = omega arith in
    let f : at + 2 + 1 ≡ at + 3 = omega arith in
    let low : field_at at 4 s ≡ get_or s at 0 + 256 * (get_or s (at + 1) 0 + 256 * field_at (at + 2) 2 s) =
    field_at-next at 3 s (omega arith) ∙ rw (field_at-next (at + 1) 2 s (omega arith), e) in
    omega (arith, low, rw f at (field_at-2 (at + 2) s (omega arith)))

power-positive : (k : ℕ) → 0 < 256 ^ k
power-positive zero = omega arith
power-positive (suc k) = omega (arith, pow-succ' 256 k, power-positive k)

front-< : (k : ℕ) (xs : List ℕ) → ((i : ℕ) → get_or xs i 0 < 256) → from_bytes (take k xs) < 256 ^ k
unfolding from_bytes
front-< zero xs h = omega arith
front-< (suc k) [] h = power-positive (suc k)
front-< (suc k) (x ∷ xs) h = omega (arith, h 0, front-< k xs (λ i. h (suc i)), pow-succ' 256 k)

pub field_at-< : (at k : ℕ) (s : List ℕ) → ((i : ℕ) → get_or s i 0 < 256) → field_at at k s < 256 ^ k
unfolding field_at
field_at-< at k s h = front-< k (drop at s) (λ i. rw (get_or-drop at s i 0) (h (at + i)))
