-- An integer as a difference of two naturals, so that omega can serve. To prove an equation or an order over ℤ, write both sides as
-- expressions, `v a ⊗ (v b ⊕ # 1)`, and give them to `≡-by`, `≤-by` or `<-by`: what is left is one line for omega over ℕ.
use Rattle.std.specs.Prelude.{◌≡◌, Bool, true, false, not, cond, ℕ, zero, suc, ◌+◌, ◌*◌, ◌-◌, ◌≤◌, ◌<◌, ℤ, pos, negsuc, neg_ℤ, ◌+ℤ◌, ◌-ℤ◌}
use Rattle.std.specs.Prelude.{◌*ℤ◌, ◌≤ℤ◌, ◌<ℤ◌, T, ltb}
use Rattle.std.proofs.Common.{ap, arith, leb→le, le→leb, ltb→lt, lt→ltb, nltb→le}
use Rattle.std.proofs.Math.IntN.{sub_ℕ}
use Rattle.std.specs.Int.Signed.{le_z, lt_z}

-- z is plus z - minus z
abbrev pub plus : ℤ → ℕ
plus (pos n) = n
plus (negsuc n) = 0

abbrev pub minus : ℤ → ℕ
minus (pos n) = 0
minus (negsuc n) = suc n

-- z is p - n
pub record Difference (z : ℤ) (p n : ℕ) : Type 0 where
  is : plus z + n ≡ minus z + p

-- ---- expressions
-- a variable, or any term taken as one
pub v : (z : ℤ) → Difference z (plus z) (minus z)
v z = record { is = omega arith }

-- a natural number
pub # : (n : ℕ) → Difference (pos n) n 0
# n = record { is = omega arith }

subtract : (t : Bool) (a b : ℕ) → (T t → a < b) → (T (not t) → b ≤ a) → Difference (cond t (negsuc (b - suc a)) (pos (a - b))) a b
subtract true a b f g = let h : a < b = f tt in record { is = omega arith }
subtract false a b f g = let h : b ≤ a = g tt in record { is = omega arith }

of-subℕ : (a b : ℕ) → Difference (sub_ℕ a b) a b
of-subℕ a b = subtract (ltb a b) a b (ltb→lt a b) (nltb→le a b)

pub ⊝ : {a : ℤ} {p n : ℕ} → Difference a p n → Difference (neg_ℤ a) n p
⊝ {a = pos zero} h = let k = h.is in record { is = omega arith }
⊝ {a = pos (suc a)} h = let k = h.is in record { is = omega arith }
⊝ {a = negsuc a} h = let k = h.is in record { is = omega arith }

sum : (a b : ℤ) → plus (a +ℤ b) + (minus a + minus b) ≡ minus (a +ℤ b) + (plus a + plus b)
sum (pos a) (pos b) = omega arith
sum (pos a) (negsuc b) = let k = (of-subℕ a (suc b)).is in omega arith
sum (negsuc a) (pos b) = let k = (of-subℕ b (suc a)).is in omega arith
sum (negsuc a) (negsuc b) = omega arith

infixl 6 ◌⊕◌
pub ◌⊕◌ : {a b : ℤ} {p n p' n' : ℕ} → Difference a p n → Difference b p' n' → Difference (a +ℤ b) (p + p') (n + n')
◌⊕◌ {a} {b} h k = record { is = omega (arith, h.is, k.is, sum a b) }

infixl 6 ◌⊖◌
pub ◌⊖◌ : {a b : ℤ} {p n p' n' : ℕ} → Difference a p n → Difference b p' n' → Difference (a -ℤ b) (p + n') (n + p')
h ⊖ k = h ⊕ ⊝ k

product : (a b : ℤ) → plus (a *ℤ b) + (plus a * minus b + minus a * plus b) ≡ minus (a *ℤ b) + (plus a * plus b + minus a * minus b)
product (pos a) (pos b) = omega arith
product (pos a) (negsuc b) = omega (arith, (⊝ (# (a * suc b))).is)
product (negsuc a) (pos b) = omega (arith, (⊝ (# (suc a * b))).is)
product (negsuc a) (negsuc b) = omega arith

times : (c : ℕ) {a b : ℕ} → a ≡ b → c * a ≡ c * b
times c e = ap (λ (x : ℕ). c * x) e

infixl 7 ◌⊗◌
pub ◌⊗◌ : {a b : ℤ} {p n p' n' : ℕ} → Difference a p n → Difference b p' n' → Difference (a *ℤ b) (p * p' + n * n') (p * n' + n * p')
◌⊗◌ {a} {b} {p} {n} {p'} {n'} h k =
    record { is = omega (arith, times p' h.is, times n' h.is, times (plus a) k.is, times (minus a) k.is, product a b) }

-- ---- equations
equal : (a b : ℤ) → plus a + minus b ≡ minus a + plus b → a ≡ b
equal (pos a) (pos b) h = let e : a ≡ b = omega arith in ap pos e
equal (pos a) (negsuc b) h = absurd (omega arith)
equal (negsuc a) (pos b) h = absurd (omega arith)
equal (negsuc a) (negsuc b) h = let e : a ≡ b = omega arith in ap negsuc e

pub ≡-by : {a b : ℤ} {p n p' n' : ℕ} → Difference a p n → Difference b p' n' → p + n' ≡ p' + n → a ≡ b
≡-by {a} {b} h k e = equal a b (omega (arith, h.is, k.is))

pub ≡-from : {a b : ℤ} {p n p' n' : ℕ} → Difference a p n → Difference b p' n' → a ≡ b → p + n' ≡ p' + n
≡-from {a} {b} {p} {n} h k e = let r : Difference b p n = rw e at h in omega (arith, r.is, k.is)

-- ---- orders
le : (a b : ℤ) → plus a + minus b ≤ minus a + plus b → T (le_z a b)
le (pos a) (pos b) h = le→leb a b (omega arith)
le (pos a) (negsuc b) h = absurd (omega arith)
le (negsuc a) (pos b) h = tt
le (negsuc a) (negsuc b) h = le→leb b a (omega arith)

of_le : (a b : ℤ) → T (le_z a b) → plus a + minus b ≤ minus a + plus b
of_le (pos a) (pos b) h = omega (arith, leb→le a b h)
of_le (pos a) (negsuc b) h = absurd h
of_le (negsuc a) (pos b) h = omega arith
of_le (negsuc a) (negsuc b) h = omega (arith, leb→le b a h)

lt : (a b : ℤ) → plus a + minus b < minus a + plus b → T (lt_z a b)
lt (pos a) (pos b) h = lt→ltb a b (omega arith)
lt (pos a) (negsuc b) h = absurd (omega arith)
lt (negsuc a) (pos b) h = tt
lt (negsuc a) (negsuc b) h = lt→ltb b a (omega arith)

of_lt : (a b : ℤ) → T (lt_z a b) → plus a + minus b < minus a + plus b
of_lt (pos a) (pos b) h = omega (arith, ltb→lt a b h)
of_lt (pos a) (negsuc b) h = absurd h
of_lt (negsuc a) (pos b) h = omega arith
of_lt (negsuc a) (negsuc b) h = omega (arith, ltb→lt b a h)

pub ≤-by : {a b : ℤ} {p n p' n' : ℕ} → Difference a p n → Difference b p' n' → p + n' ≤ p' + n → a ≤ℤ b
≤-by {a} {b} h k e = record { le = le a b (omega (arith, h.is, k.is)) }

pub ≤-from : {a b : ℤ} {p n p' n' : ℕ} → Difference a p n → Difference b p' n' → a ≤ℤ b → p + n' ≤ p' + n
≤-from {a} {b} h k e = omega (arith, h.is, k.is, of_le a b e.le)

pub <-by : {a b : ℤ} {p n p' n' : ℕ} → Difference a p n → Difference b p' n' → p + n' < p' + n → a <ℤ b
<-by {a} {b} h k e = record { lt = lt a b (omega (arith, h.is, k.is)) }

pub <-from : {a b : ℤ} {p n p' n' : ℕ} → Difference a p n → Difference b p' n' → a <ℤ b → p + n' < p' + n
<-from {a} {b} h k e = omega (arith, h.is, k.is, of_lt a b e.lt)

-- ---- `omega linear` reads the orders in scope between variables; one between expressions is listed, `≤-from (v a ⊕ v b) (v c) h`
pub ≤-vars : {a b : ℤ} → a ≤ℤ b → plus a + minus b ≤ plus b + minus a
≤-vars {a} {b} h = ≤-from (v a) (v b) h

pub <-vars : {a b : ℤ} → a <ℤ b → plus a + minus b < plus b + minus a
<-vars {a} {b} h = <-from (v a) (v b) h

pub ruleset linear = (arith, ≤-vars, <-vars)
