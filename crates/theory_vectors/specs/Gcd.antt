-- The greatest common divisor: it divides both numbers, and every common divisor divides it. So it is of several integers.
use Rattle.std.specs.Prelude.{◌≡◌, refl, not, List, [], ◌∷◌, ℕ, zero, suc, ◌*◌, ◌/◌, ◌%◌, ◌≤◌, ◌<◌, ℤ, pos, nat_abs, T, get_or}
use Rattle.std.proofs.Common.{sym, ◌∙◌, ⊎_elim, mod-lt, mul-one, arith}
use Rattle.std.specs.Int.{◌∣◌}
use Rattle.std.proofs.Math.Nat.{dvd_refl, dvd-zero, dvd_trans, dvd-mod_iff, dvd_antisymm, dvd-mul_left, dvd-mul_right, mul-dvd-mul_left}
use Rattle.std.proofs.Math.Nat.{dvd_of_mul-dvd-mul_left, mul-div_cancel', pos_of_dvd_of_pos, eq_of_mul-eq-mul_left}
use Rattle.std.proofs.Math.Facts.{and_no}
use Rattle.rules.specs.Lists.{all}
use Rattle.rules.specs.Arithmetic.{gcd_within, gcd, gcd_all, is_zero}
use Rattle.theory_vectors.specs.Sign.{0<abs-nonzero}

-- ---- any enough steps are the same
enough : (k j a b : ℕ) → b ≤ k → b ≤ j → gcd_within k a b ≡ gcd_within j a b
unfolding gcd_within
enough zero zero a b h l = refl
enough zero (suc j) a zero h l = refl
enough zero (suc j) a (suc b) h l = absurd (omega arith)
enough (suc k) zero a zero h l = refl
enough (suc k) zero a (suc b) h l = absurd (omega arith)
enough (suc k) (suc j) a zero h l = refl
enough (suc k) (suc j) a (suc b) h l =
    let m : a % suc b < suc b = mod-lt a (omega arith) in
    enough k j (suc b) (a % suc b) (omega arith) (omega arith)

pub gcd-enough : (k a b : ℕ) → b ≤ k → gcd_within k a b ≡ gcd a b
unfolding gcd
gcd-enough k a b h = enough k b a b h (omega arith)

pub gcd-zeroʳ : (a : ℕ) → gcd a 0 ≡ a
unfolding gcd gcd_within
gcd-zeroʳ a = refl

pub gcd-step : (a b : ℕ) → 0 < b → gcd b (a % b) ≡ gcd a b
unfolding gcd gcd_within
gcd-step a zero h = absurd (omega arith)
gcd-step a (suc b) h = let m : a % suc b < suc b = mod-lt a h in enough (a % suc b) b (suc b) (a % suc b) (omega arith) (omega arith)

-- ---- the divisors of both are those of the greatest
divides : (k a b : ℕ) → b ≤ k → (gcd_within k a b ∣ a) × (gcd_within k a b ∣ b)
unfolding gcd_within
divides zero a zero h = (dvd_refl a, dvd-zero a)
divides zero a (suc b) h = absurd (omega arith)
divides (suc k) a zero h = (dvd_refl a, dvd-zero a)
divides (suc k) a (suc b) h =
    let m : a % suc b < suc b = mod-lt a (omega arith) in
    let r = divides k (suc b) (a % suc b) (omega arith) in
    ((dvd-mod_iff _ r.0).0 r.1, r.0)

greatest : (k d a b : ℕ) → d ∣ a → d ∣ b → d ∣ gcd_within k a b
unfolding gcd_within
greatest zero d a b h l = h
greatest (suc k) d a zero h l = h
greatest (suc k) d a (suc b) h l = greatest k d (suc b) (a % suc b) l ((dvd-mod_iff d l).1 h)

pub gcd-dvdˡ : (a b : ℕ) → gcd a b ∣ a
unfolding gcd
gcd-dvdˡ a b = (divides b a b (omega arith)).0

pub gcd-dvdʳ : (a b : ℕ) → gcd a b ∣ b
unfolding gcd
gcd-dvdʳ a b = (divides b a b (omega arith)).1

pub gcd-greatest : (d : ℕ) {a b : ℕ} → d ∣ a → d ∣ b → d ∣ gcd a b
unfolding gcd
gcd-greatest d {a} {b} h l = greatest b d a b h l

pub gcd-comm : (a b : ℕ) → gcd a b ≡ gcd b a
gcd-comm a b = dvd_antisymm (gcd-greatest (gcd a b) (gcd-dvdʳ a b) (gcd-dvdˡ a b)) (gcd-greatest (gcd b a) (gcd-dvdʳ b a) (gcd-dvdˡ b a))

pub gcd-zeroˡ : (b : ℕ) → gcd 0 b ≡ b
gcd-zeroˡ b = gcd-comm 0 b ∙ gcd-zeroʳ b

pub gcd-positiveˡ : (a b : ℕ) → 0 < a → 0 < gcd a b
gcd-positiveˡ a b h = pos_of_dvd_of_pos (gcd-dvdˡ a b) h

pub gcd-positiveʳ : (a b : ℕ) → 0 < b → 0 < gcd a b
gcd-positiveʳ a b h = pos_of_dvd_of_pos (gcd-dvdʳ a b) h

-- ---- a common factor comes out. Of a positive one, k × (gcd (k × a) (k × b) / k) is that divisor, and its cofactor divides a and b.
pub gcd-* : (k a b : ℕ) → gcd (k * a) (k * b) ≡ k * gcd a b
gcd-* zero a b = let e : 0 * a ≡ 0 = omega arith in let f : 0 * b ≡ 0 = omega arith in let z : 0 * gcd a b ≡ 0 = omega arith in
    rw (e, f, z) (gcd-zeroʳ 0)
gcd-* (suc n) a b =
    let k = suc n in
    let g = gcd (k * a) (k * b) in
    let z : 0 < k = omega arith in
    let e : k * (g / k) ≡ g = mul-div_cancel' k (gcd-greatest k (dvd-mul_right k a) (dvd-mul_right k b)) in
    let l : g / k ∣ a = dvd_of_mul-dvd-mul_left (g / k) z (rw e (gcd-dvdˡ (k * a) (k * b))) in
    let r : g / k ∣ b = dvd_of_mul-dvd-mul_left (g / k) z (rw e (gcd-dvdʳ (k * a) (k * b))) in
    dvd_antisymm (rw e at (mul-dvd-mul_left (g / k) k (gcd-greatest (g / k) l r)))
    (gcd-greatest (k * gcd a b) (mul-dvd-mul_left (gcd a b) k (gcd-dvdˡ a b)) (mul-dvd-mul_left (gcd a b) k (gcd-dvdʳ a b)))

-- what is divided by its greatest common divisor has no common divisor but 1
pub gcd-quotients : (a b : ℕ) → 0 < gcd a b → gcd (a / gcd a b) (b / gcd a b) ≡ 1
gcd-quotients a b h =
    let g = gcd a b in
    let e : gcd (g * (a / g)) (g * (b / g)) ≡ g = rw (mul-div_cancel' g (gcd-dvdˡ a b), mul-div_cancel' g (gcd-dvdʳ a b)) in
    let f : g * 1 ≡ g = omega arith in
    eq_of_mul-eq-mul_left g h (gcd (a / g) (b / g)) 1 (sym (gcd-* g (a / g) (b / g)) ∙ e ∙ sym f)

-- Euclid's lemma: c is the greatest common divisor of c × a and c × b, and a divides both
pub coprime-dvd : (a b c : ℕ) → gcd a b ≡ 1 → a ∣ c * b → a ∣ c
coprime-dvd a b c e h =
    let f : gcd (c * a) (c * b) ≡ c = gcd-* c a b ∙ rw e (mul-one c) in
    rw f at (gcd-greatest a (dvd-mul_left a c) h)

-- ---- of several integers; one that is not there counts as 0
pub gcd_all-dvd : (zs : List ℤ) (i : ℕ) → gcd_all zs ∣ nat_abs (get_or zs i (pos 0))
unfolding gcd_all
gcd_all-dvd [] i = dvd-zero 0
gcd_all-dvd (z ∷ zs) zero = gcd-dvdˡ (nat_abs z) (gcd_all zs)
gcd_all-dvd (z ∷ zs) (suc i) = dvd_trans (gcd (nat_abs z) (gcd_all zs)) (gcd-dvdʳ (nat_abs z) (gcd_all zs)) (gcd_all-dvd zs i)

pub gcd_all-greatest : (d : ℕ) (zs : List ℤ) → ((i : ℕ) → d ∣ nat_abs (get_or zs i (pos 0))) → d ∣ gcd_all zs
unfolding gcd_all
gcd_all-greatest d [] h = dvd-zero d
gcd_all-greatest d (z ∷ zs) h = gcd-greatest d (h 0) (gcd_all-greatest d zs (λ i. h (suc i)))

pub gcd_all-positive : (zs : List ℤ) (i : ℕ) → 0 < nat_abs (get_or zs i (pos 0)) → 0 < gcd_all zs
gcd_all-positive zs i h = pos_of_dvd_of_pos (gcd_all-dvd zs i) h

pub gcd_all-nonzero : (zs : List ℤ) → T (not (all is_zero zs)) → 0 < gcd_all zs
unfolding all gcd_all
gcd_all-nonzero [] h = absurd h
gcd_all-nonzero (z ∷ zs) h =
    ⊎_elim (λ k. gcd-positiveˡ (nat_abs z) (gcd_all zs) (0<abs-nonzero z k))
    (λ k. gcd-positiveʳ (nat_abs z) (gcd_all zs) (gcd_all-nonzero zs k))
    (and_no (is_zero z) (all is_zero zs) h)

-- of a bound and coefficients
pub gcd_all-proper : (β : ℤ) (cs : List ℤ) → T (not (all is_zero cs)) → 0 < gcd_all (β ∷ cs)
unfolding gcd_all
gcd_all-proper β cs n = gcd-positiveʳ (nat_abs β) (gcd_all cs) (gcd_all-nonzero cs n)
