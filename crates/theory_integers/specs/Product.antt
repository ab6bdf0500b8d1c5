-- Products and the order: a factor of at least 0 keeps ≤, a positive one keeps ≤, < and ≡ both ways. In a name, ˡ and ʳ say on
-- which side the common factor stands.
use Rattle.std.specs.Prelude.{◌≡◌, ◌+◌, ◌*◌, ◌≤◌, ◌<◌, ℤ, pos, negsuc, neg_ℤ, ◌*ℤ◌, ◌≤ℤ◌, ◌<ℤ◌}
use Rattle.std.proofs.Common.{mul-le-mul_left, arith}
use Rattle.std.proofs.Math.Nat.{mul-lt-mul_of_pos_left, le_of_mul-le-mul_left, lt_of_mul-lt-mul_left, eq_of_mul-eq-mul_left}
use Rattle.theory_integers.specs.Difference.{plus, minus, v, #, ⊝, ◌⊗◌, ≡-by, ≡-from, ≤-by, ≤-from, <-by, <-from}
use Rattle.theory_integers.specs.Ring.{*-comm, *-zeroʳ}

pub *-monoˡ-≤ : {c a b : ℤ} → pos 0 ≤ℤ c → a ≤ℤ b → (c *ℤ a) ≤ℤ (c *ℤ b)
*-monoˡ-≤ {c = pos n} {a} {b} z h = ≤-by (# n ⊗ v a) (# n ⊗ v b) (omega (arith, mul-le-mul_left n (≤-from (v a) (v b) h)))
*-monoˡ-≤ {c = negsuc n} z h = absurd z.le

pub *-monoˡ-< : {c a b : ℤ} → pos 0 <ℤ c → a <ℤ b → (c *ℤ a) <ℤ (c *ℤ b)
*-monoˡ-< {c = pos n} {a} {b} z h =
    let k : 0 < n = omega (arith, <-from (# 0) (# n) z) in
    <-by (# n ⊗ v a) (# n ⊗ v b) (omega (arith, mul-lt-mul_of_pos_left (<-from (v a) (v b) h) k))
*-monoˡ-< {c = negsuc n} z h = absurd z.lt

pub *-monoʳ-≤ : {c a b : ℤ} → pos 0 ≤ℤ c → a ≤ℤ b → (a *ℤ c) ≤ℤ (b *ℤ c)
*-monoʳ-≤ {c} {a} {b} z h = rw (*-comm a c, *-comm b c) (*-monoˡ-≤ z h)

pub *-monoʳ-< : {c a b : ℤ} → pos 0 <ℤ c → a <ℤ b → (a *ℤ c) <ℤ (b *ℤ c)
*-monoʳ-< {c} {a} {b} z h = rw (*-comm a c, *-comm b c) (*-monoˡ-< z h)

-- ---- and back
pub *-cancelˡ-≤ : {c : ℤ} (a b : ℤ) → pos 0 <ℤ c → (c *ℤ a) ≤ℤ (c *ℤ b) → a ≤ℤ b
*-cancelˡ-≤ {c = pos n} a b z h =
    let k : 0 < n = omega (arith, <-from (# 0) (# n) z) in
    let m : n * (plus a + minus b) ≤ n * (plus b + minus a) = omega (arith, ≤-from (# n ⊗ v a) (# n ⊗ v b) h) in
    ≤-by (v a) (v b) (le_of_mul-le-mul_left m k)
*-cancelˡ-≤ {c = negsuc n} a b z h = absurd z.lt

pub *-cancelˡ-< : {c : ℤ} (a b : ℤ) → pos 0 <ℤ c → (c *ℤ a) <ℤ (c *ℤ b) → a <ℤ b
*-cancelˡ-< {c = pos n} a b z h =
    let m : n * (plus a + minus b) < n * (plus b + minus a) = omega (arith, <-from (# n ⊗ v a) (# n ⊗ v b) h) in
    <-by (v a) (v b) (lt_of_mul-lt-mul_left n m)
*-cancelˡ-< {c = negsuc n} a b z h = absurd z.lt

pub *-cancelˡ-≡ : {c : ℤ} (a b : ℤ) → pos 0 <ℤ c → c *ℤ a ≡ c *ℤ b → a ≡ b
*-cancelˡ-≡ {c = pos n} a b z h =
    let k : 0 < n = omega (arith, <-from (# 0) (# n) z) in
    let m : n * (plus a + minus b) ≡ n * (plus b + minus a) = omega (arith, ≡-from (# n ⊗ v a) (# n ⊗ v b) h) in
    ≡-by (v a) (v b) (eq_of_mul-eq-mul_left n k _ _ m)
*-cancelˡ-≡ {c = negsuc n} a b z h = absurd z.lt

pub *-cancelʳ-≤ : {c : ℤ} (a b : ℤ) → pos 0 <ℤ c → (a *ℤ c) ≤ℤ (b *ℤ c) → a ≤ℤ b
*-cancelʳ-≤ {c} a b z h = *-cancelˡ-≤ a b z (rw (*-comm a c, *-comm b c) at h)

pub *-cancelʳ-< : {c : ℤ} (a b : ℤ) → pos 0 <ℤ c → (a *ℤ c) <ℤ (b *ℤ c) → a <ℤ b
*-cancelʳ-< {c} a b z h = *-cancelˡ-< a b z (rw (*-comm a c, *-comm b c) at h)

pub *-cancelʳ-≡ : {c : ℤ} (a b : ℤ) → pos 0 <ℤ c → a *ℤ c ≡ b *ℤ c → a ≡ b
*-cancelʳ-≡ {c} a b z h = *-cancelˡ-≡ a b z (rw (*-comm a c, *-comm b c) at h)

-- ---- signs of a product
pub *-nonneg : {a b : ℤ} → pos 0 ≤ℤ a → pos 0 ≤ℤ b → pos 0 ≤ℤ (a *ℤ b)
*-nonneg {a} {b} z h = rw (*-zeroʳ a) at (*-monoˡ-≤ z h)

pub *-positive : {a b : ℤ} → pos 0 <ℤ a → pos 0 <ℤ b → pos 0 <ℤ (a *ℤ b)
*-positive {a} {b} z h = rw (*-zeroʳ a) at (*-monoˡ-< z h)

-- a negative factor reverses the order
pub *-antimonoˡ-≤ : {c a b : ℤ} → c ≤ℤ pos 0 → a ≤ℤ b → (c *ℤ b) ≤ℤ (c *ℤ a)
*-antimonoˡ-≤ {c} {a} {b} z h =
    let n : pos 0 ≤ℤ neg_ℤ c = ≤-by (# 0) (⊝ (v c)) (omega (arith, ≤-from (v c) (# 0) z)) in
    ≤-by (v c ⊗ v b) (v c ⊗ v a) (omega (arith, ≤-from (⊝ (v c) ⊗ v a) (⊝ (v c) ⊗ v b) (*-monoˡ-≤ n h)))

pub *-antimonoˡ-< : {c a b : ℤ} → c <ℤ pos 0 → a <ℤ b → (c *ℤ b) <ℤ (c *ℤ a)
*-antimonoˡ-< {c} {a} {b} z h =
    let n : pos 0 <ℤ neg_ℤ c = <-by (# 0) (⊝ (v c)) (omega (arith, <-from (v c) (# 0) z)) in
    <-by (v c ⊗ v b) (v c ⊗ v a) (omega (arith, <-from (⊝ (v c) ⊗ v a) (⊝ (v c) ⊗ v b) (*-monoˡ-< n h)))
