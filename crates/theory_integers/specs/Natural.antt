-- The naturals among the integers: `pos` keeps sums, products and the order, both ways.
use Rattle.std.specs.Prelude.{◌≡◌, refl, ℕ, suc, ◌+◌, ◌*◌, ◌-◌, ◌≤◌, ◌<◌, ℤ, pos, negsuc, nat_abs, neg_ℤ, ◌+ℤ◌, ◌-ℤ◌, ◌*ℤ◌, ◌≤ℤ◌, ◌<ℤ◌}
use Rattle.std.proofs.Common.{arith}
use Rattle.theory_integers.specs.Difference.{v, #, ◌⊖◌, ≡-by, ≡-from, ≤-by, ≤-from, <-by, <-from}

pub pos-+ : (m n : ℕ) → pos (m + n) ≡ pos m +ℤ pos n
pos-+ m n = refl

pub pos-* : (m n : ℕ) → pos (m * n) ≡ pos m *ℤ pos n
pos-* m n = refl

pub pos-minus : (m n : ℕ) → n ≤ m → pos (m - n) ≡ pos m -ℤ pos n
pos-minus m n h = ≡-by (# (m - n)) (# m ⊖ # n) (omega arith)

pub pos-injective : {m n : ℕ} → pos m ≡ pos n → m ≡ n
pos-injective {m} {n} e = omega (arith, ≡-from (# m) (# n) e)

pub pos-mono-≤ : {m n : ℕ} → m ≤ n → pos m ≤ℤ pos n
pos-mono-≤ {m} {n} h = ≤-by (# m) (# n) (omega arith)

pub pos-mono-< : {m n : ℕ} → m < n → pos m <ℤ pos n
pos-mono-< {m} {n} h = <-by (# m) (# n) (omega arith)

pub pos-cancel-≤ : {m n : ℕ} → pos m ≤ℤ pos n → m ≤ n
pos-cancel-≤ {m} {n} h = omega (arith, ≤-from (# m) (# n) h)

pub pos-cancel-< : {m n : ℕ} → pos m <ℤ pos n → m < n
pos-cancel-< {m} {n} h = omega (arith, <-from (# m) (# n) h)

pub 0≤pos : (n : ℕ) → pos 0 ≤ℤ pos n
0≤pos n = ≤-by (# 0) (# n) (omega arith)

pub 0<pos-suc : (n : ℕ) → pos 0 <ℤ pos (suc n)
0<pos-suc n = <-by (# 0) (# (suc n)) (omega arith)

pub negsuc<0 : (n : ℕ) → negsuc n <ℤ pos 0
negsuc<0 n = <-by (v (negsuc n)) (# 0) (omega arith)

pub negsuc-is : (n : ℕ) → negsuc n ≡ neg_ℤ (pos (suc n))
negsuc-is n = refl

-- ---- a number by its size
pub nonneg-is : {z : ℤ} → pos 0 ≤ℤ z → pos (nat_abs z) ≡ z
nonneg-is {z = pos n} h = refl
nonneg-is {z = negsuc n} h = absurd h.le

pub nonpos-is : {z : ℤ} → z ≤ℤ pos 0 → neg_ℤ (pos (nat_abs z)) ≡ z
nonpos-is {z = pos n} h = let e : n ≡ 0 = omega (arith, ≤-from (# n) (# 0) h) in rw e
nonpos-is {z = negsuc n} h = refl
