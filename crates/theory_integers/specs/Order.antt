-- ≤ and < on the integers, their sums and their negation. In a name, ˡ and ʳ say on which side the common summand stands.
use Rattle.std.specs.Prelude.{◌≡◌, Bool, true, false, not, ◌⊎◌, ℤ, pos, neg_ℤ, ◌+ℤ◌, ◌-ℤ◌, ◌≤ℤ◌, ◌<ℤ◌, T}
use Rattle.std.proofs.Common.{inl, inr, ⊎_elim, arith}
use Rattle.std.specs.Int.Signed.{lt_z, lt_z_yes, lt_z_no}
use Rattle.theory_integers.specs.Difference.{v, #, ⊝, ◌⊕◌, ◌⊖◌, ≡-by, ≡-from, ≤-by, ≤-from, <-by, <-from, linear}
-- what the kit has, under the names of the rest
pub use Rattle.std.specs.Int.Signed.{≤ℤ_refl as ≤-refl, <ℤ_irrefl as <-irrefl, <ℤ-≤ℤ_trans as <-≤-trans, clash_ℤ as <-≤-clash}

pub ≤-reflexive : {a b : ℤ} → a ≡ b → a ≤ℤ b
≤-reflexive {a} {b} e = ≤-by (v a) (v b) (omega (linear, ≡-from (v a) (v b) e))

pub ≤-antisym : {a b : ℤ} → a ≤ℤ b → b ≤ℤ a → a ≡ b
≤-antisym {a} {b} h k = ≡-by (v a) (v b) (omega linear)

pub <⇒≤ : {a b : ℤ} → a <ℤ b → a ≤ℤ b
<⇒≤ {a} {b} h = ≤-by (v a) (v b) (omega linear)

pub <⇒≢ : {a b : ℤ} → a <ℤ b → a ≡ b → ⊥
<⇒≢ {a} {b} h e = omega (linear, ≡-from (v a) (v b) e)

-- ---- chains
pub ≤_trans : {a b c : ℤ} → a ≤ℤ b → b ≤ℤ c → a ≤ℤ c
≤_trans {a} {b} {c} h k = ≤-by (v a) (v c) (omega linear)

pub ≤-<-trans : {a b c : ℤ} → a ≤ℤ b → b <ℤ c → a <ℤ c
≤-<-trans {a} {b} {c} h k = <-by (v a) (v c) (omega linear)

pub <-trans : {a b c : ℤ} → a <ℤ b → b <ℤ c → a <ℤ c
<-trans {a} {b} {c} h k = <-by (v a) (v c) (omega linear)

-- ---- cases
split : (t : Bool) {a b : ℤ} → (T t → a <ℤ b) → (T (not t) → b ≤ℤ a) → (a <ℤ b) ⊎ (b ≤ℤ a)
split true f g = inl (f tt)
split false f g = inr (g tt)

pub <-or-≥ : (a b : ℤ) → (a <ℤ b) ⊎ (b ≤ℤ a)
<-or-≥ a b = split (lt_z a b) lt_z_yes lt_z_no

pub ≤-or-> : (a b : ℤ) → (a ≤ℤ b) ⊎ (b <ℤ a)
≤-or-> a b = ⊎_elim inr inl (<-or-≥ b a)

pub ≤-total : (a b : ℤ) → (a ≤ℤ b) ⊎ (b ≤ℤ a)
≤-total a b = ⊎_elim (λ h. inl (<⇒≤ h)) inr (<-or-≥ a b)

pub ≤-split : {a b : ℤ} → a ≤ℤ b → (a <ℤ b) ⊎ (a ≡ b)
≤-split {a} {b} h = ⊎_elim inl (λ k. inr (≤-antisym h k)) (<-or-≥ a b)

pub ≮⇒≥ : {a b : ℤ} → ((a <ℤ b) → ⊥) → b ≤ℤ a
≮⇒≥ {a} {b} n = ⊎_elim (λ h. absurd (n h)) (λ h. h) (<-or-≥ a b)

pub ≰⇒> : {a b : ℤ} → ((a ≤ℤ b) → ⊥) → b <ℤ a
≰⇒> {a} {b} n = ⊎_elim (λ h. absurd (n h)) (λ h. h) (≤-or-> a b)

-- ---- sums
pub +-mono-≤ : {a b c d : ℤ} → a ≤ℤ b → c ≤ℤ d → (a +ℤ c) ≤ℤ (b +ℤ d)
+-mono-≤ {a} {b} {c} {d} h k = ≤-by (v a ⊕ v c) (v b ⊕ v d) (omega linear)

pub +-mono-< : {a b c d : ℤ} → a <ℤ b → c <ℤ d → (a +ℤ c) <ℤ (b +ℤ d)
+-mono-< {a} {b} {c} {d} h k = <-by (v a ⊕ v c) (v b ⊕ v d) (omega linear)

pub +-mono-<-≤ : {a b c d : ℤ} → a <ℤ b → c ≤ℤ d → (a +ℤ c) <ℤ (b +ℤ d)
+-mono-<-≤ {a} {b} {c} {d} h k = <-by (v a ⊕ v c) (v b ⊕ v d) (omega linear)

pub +-mono-≤-< : {a b c d : ℤ} → a ≤ℤ b → c <ℤ d → (a +ℤ c) <ℤ (b +ℤ d)
+-mono-≤-< {a} {b} {c} {d} h k = <-by (v a ⊕ v c) (v b ⊕ v d) (omega linear)

pub +-monoˡ-≤ : (c : ℤ) {a b : ℤ} → a ≤ℤ b → (c +ℤ a) ≤ℤ (c +ℤ b)
+-monoˡ-≤ c {a} {b} h = ≤-by (v c ⊕ v a) (v c ⊕ v b) (omega linear)

pub +-monoˡ-< : (c : ℤ) {a b : ℤ} → a <ℤ b → (c +ℤ a) <ℤ (c +ℤ b)
+-monoˡ-< c {a} {b} h = <-by (v c ⊕ v a) (v c ⊕ v b) (omega linear)

pub +-cancelˡ-≤ : (c a b : ℤ) → (c +ℤ a) ≤ℤ (c +ℤ b) → a ≤ℤ b
+-cancelˡ-≤ c a b h = ≤-by (v a) (v b) (omega (arith, ≤-from (v c ⊕ v a) (v c ⊕ v b) h))

pub +-cancelˡ-< : (c a b : ℤ) → (c +ℤ a) <ℤ (c +ℤ b) → a <ℤ b
+-cancelˡ-< c a b h = <-by (v a) (v b) (omega (arith, <-from (v c ⊕ v a) (v c ⊕ v b) h))

-- ---- negation reverses the order
pub neg-mono-≤ : {a b : ℤ} → a ≤ℤ b → neg_ℤ b ≤ℤ neg_ℤ a
neg-mono-≤ {a} {b} h = ≤-by (⊝ (v b)) (⊝ (v a)) (omega linear)

pub neg-mono-< : {a b : ℤ} → a <ℤ b → neg_ℤ b <ℤ neg_ℤ a
neg-mono-< {a} {b} h = <-by (⊝ (v b)) (⊝ (v a)) (omega linear)

pub neg-cancel-≤ : (a b : ℤ) → neg_ℤ b ≤ℤ neg_ℤ a → a ≤ℤ b
neg-cancel-≤ a b h = ≤-by (v a) (v b) (omega (arith, ≤-from (⊝ (v b)) (⊝ (v a)) h))

pub neg-cancel-< : (a b : ℤ) → neg_ℤ b <ℤ neg_ℤ a → a <ℤ b
neg-cancel-< a b h = <-by (v a) (v b) (omega (arith, <-from (⊝ (v b)) (⊝ (v a)) h))

-- ---- one step
pub <-suc : (a : ℤ) → a <ℤ (a +ℤ pos 1)
<-suc a = <-by (v a) (v a ⊕ # 1) (omega arith)

pub pred-< : (a : ℤ) → (a -ℤ pos 1) <ℤ a
pred-< a = <-by (v a ⊖ # 1) (v a) (omega arith)

pub <⇒suc-≤ : {a b : ℤ} → a <ℤ b → (a +ℤ pos 1) ≤ℤ b
<⇒suc-≤ {a} {b} h = ≤-by (v a ⊕ # 1) (v b) (omega linear)

pub suc-≤⇒< : (a b : ℤ) → (a +ℤ pos 1) ≤ℤ b → a <ℤ b
suc-≤⇒< a b h = <-by (v a) (v b) (omega (arith, ≤-from (v a ⊕ # 1) (v b) h))

-- ---- a summand moves to the other side
pub ≤-minus : (a b c : ℤ) → (a +ℤ b) ≤ℤ c → a ≤ℤ (c -ℤ b)
≤-minus a b c h = ≤-by (v a) (v c ⊖ v b) (omega (arith, ≤-from (v a ⊕ v b) (v c) h))

pub <-minus : (a b c : ℤ) → (a +ℤ b) <ℤ c → a <ℤ (c -ℤ b)
<-minus a b c h = <-by (v a) (v c ⊖ v b) (omega (arith, <-from (v a ⊕ v b) (v c) h))

pub minus-≤ : (a b c : ℤ) → a ≤ℤ (c -ℤ b) → (a +ℤ b) ≤ℤ c
minus-≤ a b c h = ≤-by (v a ⊕ v b) (v c) (omega (arith, ≤-from (v a) (v c ⊖ v b) h))

pub minus-< : (a b c : ℤ) → a <ℤ (c -ℤ b) → (a +ℤ b) <ℤ c
minus-< a b c h = <-by (v a ⊕ v b) (v c) (omega (arith, <-from (v a) (v c ⊖ v b) h))
