-- The odd part of a number of 64 bits, and what it leaves of a greatest common divisor.
use Rattle.std.specs.Prelude.{◌≡◌, refl, ℕ, zero, suc, ◌+◌, ◌*◌, ◌-◌, ◌/◌, ◌%◌, ◌^◌, ◌≤◌, ◌<◌, min, max}
use Rattle.std.proofs.Common.{sym, ap, ◌∙◌, ⊎_elim, div-one, mul_assoc, mul_comm, mod-eq_of_lt, eq-zero-or-pos, arith, pow-add, pow_mono}
use Rattle.std.specs.Int.{◌∣◌}
use Rattle.std.proofs.Math.Nat.{div-div-eq-div-mul, pow-succ', dvd_antisymm, dvd-mul_left_of_dvd, mul-div_cancel', dvd-mul_right, dvd-sub}
use Rattle.std.proofs.Math.Nat.{dvd-add, le_of_dvd}
use Rattle.std.specs.Int.Count.{count_trailing_zeros, under}
use Rattle.std.proofs.lemmas.Nat.{shr_le}
use Rattle.rules.specs.Arithmetic.{gcd}
use Rattle.theory_vectors.specs.Gcd.{gcd-dvdˡ, gcd-dvdʳ, gcd-greatest, gcd-comm, gcd-*}

-- how many factors 2 it has, and what is left without them
unfoldable pub twos : ℕ → ℕ
twos n = count_trailing_zeros 64 n

unfoldable pub odd_part : ℕ → ℕ
odd_part n = n / 2 ^ twos n

-- ---- of k digits
half-again : (n t : ℕ) → n / 2 / 2 ^ t ≡ n / 2 ^ suc t
half-again n t = rw (div-div-eq-div-mul n 2 (2 ^ t), ← pow-succ' 2 t)

power-times : (k n : ℕ) → 2 ^ count_trailing_zeros k n * (n / 2 ^ count_trailing_zeros k n) ≡ n
unfolding count_trailing_zeros
power-times zero n = omega (arith, div-one n)
power-times (suc k) n = by (n % 2) refl (power-times k (n / 2))
  where
    by : (d : ℕ) → n % 2 ≡ d → 2 ^ count_trailing_zeros k (n / 2) * (n / 2 / 2 ^ count_trailing_zeros k (n / 2)) ≡ n / 2
        → 2 ^ under d (count_trailing_zeros k (n / 2)) * (n / 2 ^ under d (count_trailing_zeros k (n / 2))) ≡ n
    by zero e h =
        let t = count_trailing_zeros k (n / 2) in
        rw (← half-again n t, pow-succ' 2 t, mul_assoc 2 (2 ^ t) (n / 2 / 2 ^ t), h) (omega arith)
    by (suc d) e h = omega (arith, div-one n)

odd-left : (k n : ℕ) → 0 < n → n < 2 ^ k → n / 2 ^ count_trailing_zeros k n % 2 ≡ 1
unfolding count_trailing_zeros
odd-left zero n h l = absurd (omega arith)
odd-left (suc k) n h l = by (n % 2) refl (λ e. odd-left k (n / 2) (omega arith) (omega (arith, pow-succ' 2 k)))
  where
    by : (d : ℕ) → n % 2 ≡ d → (n % 2 ≡ 0 → n / 2 / 2 ^ count_trailing_zeros k (n / 2) % 2 ≡ 1)
        → n / 2 ^ under d (count_trailing_zeros k (n / 2)) % 2 ≡ 1
    by zero e h = rw (← half-again n (count_trailing_zeros k (n / 2))) (h e)
    by (suc d) e h = rw (div-one n) (omega arith)

-- ---- of 64
pub odd_part-* : (n : ℕ) → 2 ^ twos n * odd_part n ≡ n
unfolding twos odd_part
odd_part-* n = power-times 64 n

pub odd_part-odd : (n : ℕ) → 0 < n → n < 2 ^ 64 → odd_part n % 2 ≡ 1
unfolding twos odd_part
odd_part-odd n h l = odd-left 64 n h l

pub odd_part-≤ : (n : ℕ) → odd_part n ≤ n
unfolding odd_part
odd_part-≤ n = shr_le n (twos n)

pub twos-< : (n : ℕ) → 0 < n → n < 2 ^ 64 → twos n < 64
twos-< n h l = ⊎_elim (λ k. absurd (omega (
  arith,
  pow_mono {i = 64} {j = twos n} (omega arith),
  le_of_dvd h (rw odd_part-* at (dvd-mul_right (2 ^ twos n) (odd_part n))),
))) (λ k. omega arith) (eq-zero-or-pos (64 - twos n))

-- ---- an odd number shares no factor 2
-- d × q = 2 × y with d odd makes q even
odd-dvd : (d y : ℕ) → d % 2 ≡ 1 → d ∣ 2 * y → d ∣ y
odd-dvd d y o h =
    let q = 2 * y / d in
    let e : d * q ≡ 2 * y = mul-div_cancel' d h in
    let m = d / 2 in
    let s : d ≡ 2 * m + 1 = omega arith in
    let t : (2 * m + 1) * q ≡ 2 * y = ap (λ (x : ℕ). x * q) (sym s) ∙ e in
    let v : q ≡ 2 * (q / 2) = omega arith in
    let w : d * (q / 2) ≡ y = omega (arith, ap (λ (x : ℕ). d * x) v) in
    rw (← w) (dvd-mul_right d (q / 2))

divisor-odd : (d x : ℕ) → x % 2 ≡ 1 → d ∣ x → d % 2 ≡ 1
divisor-odd d x o h = by (d % 2) refl
  where
    e : d * (x / d) ≡ x
    e = mul-div_cancel' d h

    by : (r : ℕ) → d % 2 ≡ r → r ≡ 1
    by zero z = let s : d ≡ 2 * (d / 2) = omega arith in absurd (omega (arith, e, ap (λ (y : ℕ). y * (x / d)) s))
    by (suc r) z = omega arith

gcd-double : (x y : ℕ) → x % 2 ≡ 1 → gcd x (2 * y) ≡ gcd x y
gcd-double x y o =
    let g = gcd x (2 * y) in
    let p : g ∣ y = odd-dvd g y (divisor-odd g x o (gcd-dvdˡ x (2 * y))) (gcd-dvdʳ x (2 * y)) in
    dvd_antisymm (gcd-greatest g (gcd-dvdˡ x (2 * y)) p)
    (gcd-greatest (gcd x y) (gcd-dvdˡ x y) (dvd-mul_left_of_dvd (gcd x y) (gcd-dvdʳ x y) 2))

gcd-power : (k x y : ℕ) → x % 2 ≡ 1 → gcd x (2 ^ k * y) ≡ gcd x y
gcd-power zero x y o = let e : 1 * y ≡ y = omega arith in rw e
gcd-power (suc k) x y o = rw (pow-succ' 2 k, mul_assoc 2 (2 ^ k) y) (gcd-double x (2 ^ k * y) o ∙ gcd-power k x y o)

pub gcd-odd_part : (x y : ℕ) → x % 2 ≡ 1 → gcd x (odd_part y) ≡ gcd x y
gcd-odd_part x y o = sym (gcd-power (twos y) x (odd_part y) o) ∙ ap (gcd x) (odd_part-* y)

-- the factors 2 that both have, times what the odd part of one leaves; by cases on which has fewer
fewer : (i j x y : ℕ) → x % 2 ≡ 1 → i ≤ j → gcd (2 ^ i * x) (2 ^ j * y) ≡ 2 ^ i * gcd x y
fewer i j x y o h =
    let e : j ≡ i + (j - i) = omega arith in
    let p : 2 ^ j * y ≡ 2 ^ i * (2 ^ (j - i) * y) = rw (← mul_assoc (2 ^ i) (2 ^ (j - i)) y, ← pow-add 2 i (j - i), ← e) in
    rw (p, gcd-* (2 ^ i) x (2 ^ (j - i) * y), gcd-power (j - i) x y o)

both : (i j x y : ℕ) → x % 2 ≡ 1 → y % 2 ≡ 1 → gcd (2 ^ i * x) (2 ^ j * y) ≡ 2 ^ min i j * gcd x y
both i j x y o u = ⊎_elim
    (λ h. let e : min i j ≡ i = omega arith in rw e (fewer i j x y o (omega arith)))
    (λ h. let e : min i j ≡ j = omega arith in
    rw e (gcd-comm (2 ^ i * x) (2 ^ j * y) ∙ fewer j i y x u (omega arith) ∙ ap (λ (g : ℕ). 2 ^ j * g) (gcd-comm y x)))
    (eq-zero-or-pos (i - j))

gcd-twos : (a b : ℕ) → 0 < a → a < 2 ^ 64 → 0 < b → b < 2 ^ 64 → gcd (odd_part a) b * 2 ^ min (twos a) (twos b) ≡ gcd a b
gcd-twos a b h l k m =
    let x = odd_part a in
    let y = odd_part b in
    let o = odd_part-odd a h l in
    let e : gcd (2 ^ twos a * x) (2 ^ twos b * y) ≡ gcd a b = rw (odd_part-* a, odd_part-* b) in
    rw (← gcd-odd_part x b o, mul_comm (gcd x y) (2 ^ min (twos a) (twos b)), ← both (twos a) (twos b) x y o (odd_part-odd b k m)) e

-- a greatest common divisor has no more digits than the numbers
pub gcd-shifted : (a b : ℕ) → 0 < a → a < 2 ^ 64 → 0 < b → b < 2 ^ 64 → gcd (odd_part a) b * 2 ^ min (twos a) (twos b) % 2 ^ 64 ≡ gcd a b
gcd-shifted a b h l k m = rw (gcd-twos a b h l k m) (mod-eq_of_lt (omega (arith, le_of_dvd h (gcd-dvdˡ a b))))

-- ---- a difference
pub gcd-distance : (x y : ℕ) → gcd (min x y) (max x y - min x y) ≡ gcd x y
gcd-distance x y = ⊎_elim
    (λ h. let e : min x y ≡ x = omega arith in let f : max x y - min x y ≡ y - x = omega arith in rw (f, e) (less x y (omega arith)))
    (λ h. let e : min x y ≡ y = omega arith in let f : max x y - min x y ≡ x - y = omega arith in
    rw (f, e) (less y x (omega arith) ∙ gcd-comm y x))
    (eq-zero-or-pos (x - y))
  where
    less : (x y : ℕ) → x ≤ y → gcd x (y - x) ≡ gcd x y
    less x y h =
        let d = gcd x (y - x) in
        let e : x + (y - x) ≡ y = omega arith in
        let p : d ∣ y = rw e at (dvd-add d (gcd-dvdˡ x (y - x)) (gcd-dvdʳ x (y - x))) in
        dvd_antisymm (gcd-greatest d (gcd-dvdˡ x (y - x)) p)
        (gcd-greatest (gcd x y) (gcd-dvdˡ x y) (dvd-sub (gcd x y) (gcd-dvdʳ x y) (gcd-dvdˡ x y)))

-- ---- a pass of the loop: from x, which is odd, and y to the lesser of x and y's odd part, and their difference
module _ (x y : ℕ) (odd : x % 2 ≡ 1) where
  pub pass-odd : 0 < y → y < 2 ^ 64 → min x (odd_part y) % 2 ≡ 1
  pass-odd h l = ⊎_elim
      (λ k. let e : min x (odd_part y) ≡ x = omega arith in rw e odd)
      (λ k. let e : min x (odd_part y) ≡ odd_part y = omega arith in rw e (odd_part-odd y h l))
      (eq-zero-or-pos (x - (odd_part y)))

  pub pass-gcd : gcd (min x (odd_part y)) (max x (odd_part y) - min x (odd_part y)) ≡ gcd x y
  pass-gcd = gcd-distance x (odd_part y) ∙ gcd-odd_part x y odd

  pub pass-less : 0 < y → min x (odd_part y) + (max x (odd_part y) - min x (odd_part y)) < x + y
  pass-less h = omega (arith, odd_part-≤ y)
