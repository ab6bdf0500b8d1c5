-- The integers are a commutative ring. `simp ring` proves identities of + and ×, and `simp (ring, negation)` many with -; what is
-- left goes by `≡-by` (Difference).
use Rattle.std.specs.Prelude.{◌≡◌, ℤ, pos, neg_ℤ, ◌+ℤ◌, ◌-ℤ◌, ◌*ℤ◌}
use Rattle.std.proofs.Common.{arith}
use Rattle.theory_integers.specs.Difference.{v, #, ⊝, ◌⊕◌, ◌⊖◌, ◌⊗◌, ≡-by, ≡-from}
-- what the kit has, under the names of the rest
pub use Rattle.std.proofs.Math.IntN.{+ℤ_assoc as +_assoc, +ℤ_comm as +_comm, +ℤ_idl as +-identityˡ, +ℤ_idr as +-identityʳ}
pub use Rattle.std.proofs.Math.IntN.{+ℤ_invl as +-inverseˡ, +ℤ_invr as +-inverseʳ, neg_ℤ-neg_ℤ as neg-Involutive, neg_ℤ-+ℤ as neg-distrib-+}
pub use Rattle.std.proofs.Math.IntN.{*ℤ_comm as *-comm, zero-*ℤ as *-zeroˡ, *ℤ-zero as *-zeroʳ}

-- ---- sums and products
pub +-left-comm : (a b c : ℤ) → a +ℤ (b +ℤ c) ≡ b +ℤ (a +ℤ c)
+-left-comm a b c = ≡-by (v a ⊕ (v b ⊕ v c)) (v b ⊕ (v a ⊕ v c)) (omega arith)

pub *-assoc : (a b c : ℤ) → (a *ℤ b) *ℤ c ≡ a *ℤ (b *ℤ c)
*-assoc a b c = ≡-by ((v a ⊗ v b) ⊗ v c) (v a ⊗ (v b ⊗ v c)) (omega arith)

pub *-left-comm : (a b c : ℤ) → a *ℤ (b *ℤ c) ≡ b *ℤ (a *ℤ c)
*-left-comm a b c = ≡-by (v a ⊗ (v b ⊗ v c)) (v b ⊗ (v a ⊗ v c)) (omega arith)

pub *-identityˡ : (a : ℤ) → pos 1 *ℤ a ≡ a
*-identityˡ a = ≡-by (# 1 ⊗ v a) (v a) (omega arith)

pub *-identityʳ : (a : ℤ) → a *ℤ pos 1 ≡ a
*-identityʳ a = ≡-by (v a ⊗ # 1) (v a) (omega arith)

pub *-distribˡ-+ : (a b c : ℤ) → a *ℤ (b +ℤ c) ≡ a *ℤ b +ℤ a *ℤ c
*-distribˡ-+ a b c = ≡-by (v a ⊗ (v b ⊕ v c)) (v a ⊗ v b ⊕ v a ⊗ v c) (omega arith)

pub *-distribʳ-+ : (a b c : ℤ) → (a +ℤ b) *ℤ c ≡ a *ℤ c +ℤ b *ℤ c
*-distribʳ-+ a b c = ≡-by ((v a ⊕ v b) ⊗ v c) (v a ⊗ v c ⊕ v b ⊗ v c) (omega arith)

pub ruleset ring = (
  *-distribˡ-+,
  *-distribʳ-+,
  *-assoc,
  *-left-comm,
  *-comm,
  +_assoc,
  +-left-comm,
  +_comm,
  +-identityˡ,
  +-identityʳ,
  *-zeroˡ,
  *-zeroʳ,
  *-identityˡ,
  *-identityʳ,
)

-- ---- negation
pub neg-distribˡ-* : (a b : ℤ) → neg_ℤ a *ℤ b ≡ neg_ℤ (a *ℤ b)
neg-distribˡ-* a b = ≡-by (⊝ (v a) ⊗ v b) (⊝ (v a ⊗ v b)) (omega arith)

pub neg-distribʳ-* : (a b : ℤ) → a *ℤ neg_ℤ b ≡ neg_ℤ (a *ℤ b)
neg-distribʳ-* a b = ≡-by (v a ⊗ ⊝ (v b)) (⊝ (v a ⊗ v b)) (omega arith)

pub neg-*-neg : (a b : ℤ) → neg_ℤ a *ℤ neg_ℤ b ≡ a *ℤ b
neg-*-neg a b = ≡-by (⊝ (v a) ⊗ ⊝ (v b)) (v a ⊗ v b) (omega arith)

pub neg_injective : (a b : ℤ) → neg_ℤ a ≡ neg_ℤ b → a ≡ b
neg_injective a b e = ≡-by (v a) (v b) (omega (arith, ≡-from (⊝ (v a)) (⊝ (v b)) e))

pub +-neg-cancelˡ : (a b : ℤ) → a +ℤ (neg_ℤ a +ℤ b) ≡ b
+-neg-cancelˡ a b = ≡-by (v a ⊕ (⊝ (v a) ⊕ v b)) (v b) (omega arith)

pub neg-+-cancelˡ : (a b : ℤ) → neg_ℤ a +ℤ (a +ℤ b) ≡ b
neg-+-cancelˡ a b = ≡-by (⊝ (v a) ⊕ (v a ⊕ v b)) (v b) (omega arith)

pub ruleset negation = (neg-distribˡ-*, neg-distribʳ-*, neg-distrib-+, neg-Involutive, +-inverseʳ, +-inverseˡ, +-neg-cancelˡ, neg-+-cancelˡ)

-- ---- differences
pub *-distribˡ-- : (a b c : ℤ) → a *ℤ (b -ℤ c) ≡ a *ℤ b -ℤ a *ℤ c
*-distribˡ-- a b c = ≡-by (v a ⊗ (v b ⊖ v c)) (v a ⊗ v b ⊖ v a ⊗ v c) (omega arith)

pub *-distribʳ-- : (a b c : ℤ) → (a -ℤ b) *ℤ c ≡ a *ℤ c -ℤ b *ℤ c
*-distribʳ-- a b c = ≡-by ((v a ⊖ v b) ⊗ v c) (v a ⊗ v c ⊖ v b ⊗ v c) (omega arith)

pub neg-minus : (a b : ℤ) → neg_ℤ (a -ℤ b) ≡ b -ℤ a
neg-minus a b = ≡-by (⊝ (v a ⊖ v b)) (v b ⊖ v a) (omega arith)

pub minus-zero : (a : ℤ) → a -ℤ pos 0 ≡ a
minus-zero a = ≡-by (v a ⊖ # 0) (v a) (omega arith)

pub zero_minus : (a : ℤ) → pos 0 -ℤ a ≡ neg_ℤ a
zero_minus a = ≡-by (# 0 ⊖ v a) (⊝ (v a)) (omega arith)

pub minus-self : (a : ℤ) → a -ℤ a ≡ pos 0
minus-self a = ≡-by (v a ⊖ v a) (# 0) (omega arith)

-- ---- equal summands
pub +-cancelˡ-≡ : (a b c : ℤ) → a +ℤ b ≡ a +ℤ c → b ≡ c
+-cancelˡ-≡ a b c e = ≡-by (v b) (v c) (omega (arith, ≡-from (v a ⊕ v b) (v a ⊕ v c) e))

pub +-cancelʳ-≡ : (a b c : ℤ) → a +ℤ c ≡ b +ℤ c → a ≡ b
+-cancelʳ-≡ a b c e = ≡-by (v a) (v b) (omega (arith, ≡-from (v a ⊕ v c) (v b ⊕ v c) e))

-- a summand moves to the other side
pub +-to-minus : (a b c : ℤ) → a +ℤ b ≡ c → a ≡ c -ℤ b
+-to-minus a b c e = ≡-by (v a) (v c ⊖ v b) (omega (arith, ≡-from (v a ⊕ v b) (v c) e))
