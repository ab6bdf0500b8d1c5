-- Sets of Boolean variables as numbers: variable i is a member if digit i is 1.
use Rattle.std.specs.Prelude.{◌≡◌, refl, Bool, true, false, not, cond, ◌||◌, ◌&&◌, ◌↔◌, [], ◌∷◌, ℕ, zero, suc, ◌+◌, ◌*◌, ◌-◌, ◌/◌, ◌%◌, ◌^◌}
use Rattle.std.specs.Prelude.{◌≤◌, ◌<◌, max, min, T, eqb, length, get_or, drop}
use Rattle.std.proofs.Common.{sym, ap, ◌∙◌, mod-lt, div-one, arith, pow_mono, eq-eqb, ne_eqb, eqb→eq}
use Rattle.std.proofs.Math.Nat.{pow-succ', div-div-eq-div-mul}
use Rattle.std.proofs.Math.Facts.{and_yes, yes_and}
use Rattle.std.specs.Int.Bits.{bit_or, bit_and, or_step, or_zero_r, and_step, and_lt}
use Rattle.std.proofs.lemmas.Nat.{or_lt}
use Rattle.rules_types.specs.Limits as limit
use Rattle.theory_lists.specs.Tests.{tests_agree, of-true}
use Rattle.rules.specs.Lists.{any}
use Rattle.rules.specs.Lines.{Booleans, union, meet, subset, including, excluding}
use Rattle.rules.specs.Steps.{mask}

-- the lowest k digits, the lowest first
unfoldable pub bits : ℕ → ℕ → Booleans
bits zero n = []
bits (suc k) n = eqb (n % 2) 1 ∷ bits k (n / 2)

-- those that are not members
unfoldable pub outside : ℕ → ℕ → Bool
outside n = λ i. not (get_or (bits limit.all_booleans n) i false)

-- every variable
abbrev pub all_bits : ℕ
all_bits = 2 ^ limit.all_booleans - 1

pub length-bits : (k n : ℕ) → length (bits k n) ≡ k
unfolding bits
length-bits zero n = refl
length-bits (suc k) n = ap suc (length-bits k (n / 2))

-- ---- one digit
-- a digit by its two values
digit : (P : ℕ → Type 0) (x : ℕ) → x < 2 → P 0 → P 1 → P x
digit P zero h p q = p
digit P (suc zero) h p q = q
digit P (suc (suc x)) h p q = absurd (omega arith)

or-digit : (x y : ℕ) → x < 2 → y < 2 → eqb (max x y) 1 ≡ eqb x 1 || eqb y 1
or-digit x y h k = digit (λ x. eqb (max x y) 1 ≡ eqb x 1 || eqb y 1) x h (digit (λ y. eqb (max 0 y) 1 ≡ eqb y 1) y k refl refl)
    (digit (λ y. eqb (max 1 y) 1 ≡ true) y k refl refl)

and-digit : (x y : ℕ) → x < 2 → y < 2 → eqb (min x y) 1 ≡ eqb x 1 && eqb y 1
and-digit x y h k = digit (λ x. eqb (min x y) 1 ≡ eqb x 1 && eqb y 1) x h (digit (λ y. eqb (min 0 y) 1 ≡ false) y k refl refl)
    (digit (λ y. eqb (min 1 y) 1 ≡ eqb y 1) y k refl refl)

cond-digit : (x : ℕ) → x < 2 → cond (eqb x 1) 1 0 ≡ x
cond-digit x h = digit (λ x. cond (eqb x 1) 1 0 ≡ x) x h refl refl

digit-< : (n : ℕ) → n % 2 < 2
digit-< n = mod-lt n (omega arith)

-- a number by its lowest digit and its half
half : (z x y : ℕ) → z ≡ x * 2 + y → y < 2 → (z / 2 ≡ x) × (z % 2 ≡ y)
half z x y e h = (omega arith, omega arith)

-- ---- all digits
pub mask-bits : (k n : ℕ) → n < 2 ^ k → mask (bits k n) ≡ n
unfolding bits mask
mask-bits zero n h = omega arith
mask-bits (suc k) n h = rw (cond-digit (n % 2) (digit-< n), mask-bits k (n / 2) (omega (arith, pow-succ' 2 k))) (omega arith)

-- a member, by a shift
pub has-bits : (k n i : ℕ) → i < k → get_or (bits k n) i false ≡ eqb (n / 2 ^ i % 2) 1
unfolding bits
has-bits zero n i h = absurd (omega arith)
has-bits (suc k) n zero h = rw (div-one n)
has-bits (suc k) n (suc i) h = rw (pow-succ' 2 i, ← div-div-eq-div-mul n 2 (2 ^ i)) (has-bits k (n / 2) i (omega arith))

pub union-bits : (k a b : ℕ) → union (bits k a) (bits k b) ≡ bits k (bit_or a b)
unfolding bits union
union-bits zero a b = refl
union-bits (suc k) a b =
    let r = half (bit_or a b) (bit_or (a / 2) (b / 2)) (max (a % 2) (b % 2)) (or_step a b)
    (digits-< (a % 2) (b % 2) (digit-< a) (digit-< b)) in
    rw (r.0, r.1, or-digit (a % 2) (b % 2) (digit-< a) (digit-< b), union-bits k (a / 2) (b / 2))
  where
    digits-< : (x y : ℕ) → x < 2 → y < 2 → max x y < 2
    digits-< x y h k = omega arith

-- a test that says whether two numbers are equal
agree : (t : Bool) (a b : ℕ) → (T t → a ≡ b) → (a ≡ b → T t) → t ≡ eqb a b
agree t a b f g = tests_agree t (eqb a b) (λ h. of-true (eqb a b) (eq-eqb a b (f h))) (λ h. g (eqb→eq a b h))

-- no digit is 1
pub none-bits : (k n : ℕ) → n < 2 ^ k → not (any (λ a. a) (bits k n)) ≡ eqb n 0
unfolding bits any
none-bits zero n h = sym (eq-eqb n 0 (omega arith))
none-bits (suc k) n h = by (n % 2) refl (none-bits k (n / 2) (omega (arith, pow-succ' 2 k)))
  where
    by : (d : ℕ) → n % 2 ≡ d → not (any (λ a. a) (bits k (n / 2))) ≡ eqb (n / 2) 0
        → not (eqb d 1 || any (λ a. a) (bits k (n / 2))) ≡ eqb n 0
    by zero e r = r ∙ agree (eqb (n / 2) 0) n 0 (λ t. omega (arith, eqb→eq (n / 2) 0 t))
        (λ z. of-true (eqb (n / 2) 0) (eq-eqb (n / 2) 0 (omega arith)))
    by (suc zero) e r = sym (ne_eqb n 0 (λ z. omega arith))
    by (suc (suc d)) e r = absurd (omega arith)

pub any-bits : (k n : ℕ) → n < 2 ^ k → any (λ a. a) (bits k n) ≡ not (eqb n 0)
any-bits k n h = by (any (λ a. a) (bits k n)) (none-bits k n h)
  where
    by : (a : Bool) → not a ≡ eqb n 0 → a ≡ not (eqb n 0)
    by true e = ap not e
    by false e = ap not e

meet-any : (k a b : ℕ) → meet (bits k a) (bits k b) ≡ any (λ a. a) (bits k (bit_and a b))
unfolding bits meet any
meet-any zero a b = refl
meet-any (suc k) a b =
    let r = half (bit_and a b) (bit_and (a / 2) (b / 2)) (min (a % 2) (b % 2)) (and_step a b) (digits-< (a % 2) (b % 2) (digit-< a)) in
    rw (r.0, r.1, and-digit (a % 2) (b % 2) (digit-< a) (digit-< b), meet-any k (a / 2) (b / 2))
  where
    digits-< : (x y : ℕ) → x < 2 → min x y < 2
    digits-< x y h = omega arith

-- a common member
pub meet-bits : (k a b : ℕ) → a < 2 ^ k → b < 2 ^ k → meet (bits k a) (bits k b) ≡ not (eqb (bit_and a b) 0)
meet-bits k a b h l = meet-any k a b ∙ any-bits k (bit_and a b) (and_lt k a b h l)

-- every member of the first is one of the second
subset-union : (k a b : ℕ) → T (subset (bits k a) (bits k b)) ↔ (union (bits k a) (bits k b) ≡ bits k b)
unfolding bits subset union
subset-union zero a b = ((λ h. refl), λ e. tt)
subset-union (suc k) a b =
    let s = bits k (a / 2) in
    let t = bits k (b / 2) in
    let r = subset-union k (a / 2) (b / 2) in
    let p = eqb (a % 2) 1 in
    let q = eqb (b % 2) 1 in (
      λ h. let g = and_yes (not p || q) (subset s t) h in (λ i. or_is p q g.0 i ∷ r.0 g.1 i),
      λ e. yes_and (not p || q) (subset s t) (is-or p q (ap (λ (l : Booleans). get_or l 0 false) e)) (r.1 (ap (drop 1) e)),
    )
  where
    or_is : (p q : Bool) → T (not p || q) → p || q ≡ q
    or_is true true h = refl
    or_is true false h = absurd h
    or_is false q h = refl

    is-or : (p q : Bool) → p || q ≡ q → T (not p || q)
    is-or true true e = tt
    is-or true false e = of-true false (sym e)
    is-or false q e = tt

pub subset-bits : (k a b : ℕ) → a < 2 ^ k → b < 2 ^ k → subset (bits k a) (bits k b) ≡ eqb (bit_or a b) b
subset-bits k a b h l =
    let m = or_lt k a b h l in
    agree (subset (bits k a) (bits k b)) (bit_or a b) b
    (λ t. sym (mask-bits k (bit_or a b) m) ∙ ap mask (sym (union-bits k a b) ∙ (subset-union k a b).0 t) ∙ mask-bits k b l)
    (λ e. (subset-union k a b).1 (union-bits k a b ∙ ap (bits k) e))

-- ---- without one member
pub shifted : (n i : ℕ) → n / 2 ^ suc i ≡ n / 2 / 2 ^ i
shifted n i = rw (pow-succ' 2 i, ← div-div-eq-div-mul n 2 (2 ^ i))

-- its power is taken away, or is not there
pub member-≤ : (n i : ℕ) → n / 2 ^ i % 2 ≡ 1 → 2 ^ i ≤ n
member-≤ n zero e = omega (arith, div-one n)
member-≤ n (suc i) e = omega (arith, pow-succ' 2 i, member-≤ (n / 2) i (rw (← shifted n i) e))

pub excluding-member : (k n i : ℕ) → n / 2 ^ i % 2 ≡ 1 → excluding i (bits k n) ≡ bits k (n - 2 ^ i)
unfolding bits excluding
excluding-member zero n i e = refl
excluding-member (suc k) n zero e =
    let o : n % 2 ≡ 1 = omega (arith, div-one n) in
    let d : (n - 1) % 2 ≡ 0 = omega arith in
    let q : (n - 1) / 2 ≡ n / 2 = omega arith in
    rw (d, q)
excluding-member (suc k) n (suc i) e =
    let s : n / 2 / 2 ^ i % 2 ≡ 1 = rw (← shifted n i) e in
    let l : 2 ^ i ≤ n / 2 = member-≤ (n / 2) i s in
    let d : (n - 2 * 2 ^ i) % 2 ≡ n % 2 = omega arith in
    let q : (n - 2 * 2 ^ i) / 2 ≡ n / 2 - 2 ^ i = omega arith in
    rw (pow-succ' 2 i, d, q, ← excluding-member k (n / 2) i s)

pub excluding-other : (k n i : ℕ) → eqb (n / 2 ^ i % 2) 1 ≡ false → excluding i (bits k n) ≡ bits k n
unfolding bits excluding
excluding-other zero n i e = refl
excluding-other (suc k) n zero e = let o : eqb (n % 2) 1 ≡ false = rw (div-one n) at e in rw o
excluding-other (suc k) n (suc i) e = ap (λ (s : Booleans). eqb (n % 2) 1 ∷ s) (excluding-other k (n / 2) i (rw (← shifted n i) e))

-- with all digits of m, which are 1
and-ones : (k n m : ℕ) → m + 1 ≡ 2 ^ k → bits k (bit_and n m) ≡ bits k n
unfolding bits
and-ones zero n m e = refl
and-ones (suc k) n m e =
    let o : m % 2 ≡ 1 = omega (arith, pow-succ' 2 k) in
    let r = half (bit_and n m) (bit_and (n / 2) (m / 2)) (min (n % 2) (m % 2)) (and_step n m) (omega (arith, digit-< n)) in
    let l : min (n % 2) 1 ≡ n % 2 = omega (arith, digit-< n) in
    rw (r.0, r.1, o, l, and-ones k (n / 2) (m / 2) (omega (arith, pow-succ' 2 k)))

-- all digits but its own are kept
pub excluding-bits : (k n i m : ℕ) → m + 2 ^ i + 1 ≡ 2 ^ k → excluding i (bits k n) ≡ bits k (bit_and n m)
unfolding bits excluding
excluding-bits zero n i m e = refl
excluding-bits (suc k) n zero m e =
    let o : m % 2 ≡ 0 = omega (arith, pow-succ' 2 k) in
    let r = half (bit_and n m) (bit_and (n / 2) (m / 2)) (min (n % 2) (m % 2)) (and_step n m) (omega (arith, digit-< n)) in
    let l : min (n % 2) 0 ≡ 0 = omega arith in
    rw (r.0, r.1, o, l, and-ones k (n / 2) (m / 2) (omega (arith, pow-succ' 2 k)))
excluding-bits (suc k) n (suc i) m e =
    let o : m % 2 ≡ 1 = omega (arith, pow-succ' 2 k, pow-succ' 2 i) in
    let r = half (bit_and n m) (bit_and (n / 2) (m / 2)) (min (n % 2) (m % 2)) (and_step n m) (omega (arith, digit-< n)) in
    let l : min (n % 2) 1 ≡ n % 2 = omega (arith, digit-< n) in
    rw (r.0, r.1, o, l, ← excluding-bits k (n / 2) i (m / 2) (omega (arith, pow-succ' 2 k, pow-succ' 2 i)))

-- ---- a power of two of 32 bits
pub power-< : (i : ℕ) → i < limit.all_booleans → 2 ^ i < 2 ^ limit.all_booleans
power-< i h =
    let p : 0 < 2 ^ i = omega (arith, pow_mono {i = 0} {j = i} (omega arith)) in
    omega (arith, pow-succ' 2 i, pow_mono {i = suc i} {j = limit.all_booleans} h)

-- as a shift makes it
pub shift_is : (i : ℕ) → i < limit.all_booleans → 1 * 2 ^ i % 4294967296 ≡ 2 ^ i
shift_is i h = omega (arith, power-< i h)

-- with one member more: its power is put in, or there is no such place
pub including-bits : (k n i : ℕ) → including i (bits k n) ≡ bits k (bit_or n (2 ^ i))
unfolding bits including
including-bits zero n i = refl
including-bits (suc k) n zero =
    let r = half (bit_or n 1) (bit_or (n / 2) 0) (max (n % 2) 1) (or_step n 1) (one-< (n % 2) (digit-< n)) in
    let e : max (n % 2) 1 ≡ 1 = omega (arith, digit-< n) in
    rw (r.0, r.1, e, or_zero_r (n / 2))
  where
    one-< : (x : ℕ) → x < 2 → max x 1 < 2
    one-< x h = omega arith
including-bits (suc k) n (suc i) =
    let e : 2 ^ suc i / 2 ≡ 2 ^ i = omega (arith, pow-succ' 2 i) in
    let o : 2 ^ suc i % 2 ≡ 0 = omega (arith, pow-succ' 2 i) in
    let r = half (bit_or n (2 ^ suc i)) (bit_or (n / 2) (2 ^ suc i / 2)) (max (n % 2) (2 ^ suc i % 2)) (or_step n (2 ^ suc i))
    (omega (arith, digit-< n)) in
    let z : max (n % 2) 0 ≡ n % 2 = omega arith in
    rw (r.0, r.1, e, o, z, ← including-bits k (n / 2) i)

pub including-beyond : (k n i : ℕ) → k ≤ i → including i (bits k n) ≡ bits k n
unfolding bits including
including-beyond zero n i h = refl
including-beyond (suc k) n zero h = absurd (omega arith)
including-beyond (suc k) n (suc i) h = ap (λ (s : Booleans). eqb (n % 2) 1 ∷ s) (including-beyond k (n / 2) i (omega arith))
