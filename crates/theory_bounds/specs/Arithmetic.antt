-- Reducing keeps a fraction; adding a whole number and the midpoint lie where they should.
use Rattle.std.specs.Prelude.{◌≡◌, true, ℕ, zero, suc, ◌*◌, ◌/◌, ◌<◌, ℤ, pos, negsuc, neg_ℤ, nat_abs, ◌+ℤ◌, ◌*ℤ◌, ◌<ℤ◌, T}
use Rattle.std.proofs.Common.{ap, mul-pos, arith}
use Rattle.std.proofs.Math.Nat.{mul-div_cancel', pos_of_dvd_of_pos, dvd-mul_left}
use Rattle.std.specs.Int.Signed.{quot_z}
use Rattle.theory_integers.specs.Difference.{v, #, ⊝, ◌⊕◌, ◌⊗◌, ≡-by, <-by, <-from}
use Rattle.theory_integers.specs.Ring.{ring}
use Rattle.theory_integers.specs.Natural.{pos-mono-<}
use Rattle.theory_integers.specs.Product.{*-positive}
use Rattle.theory_integers.specs.Quotient.{*-quot}
use Rattle.rules.specs.Arithmetic.{gcd, is_positive, is_negative}
use Rattle.theory_vectors.specs.Gcd.{gcd-dvdˡ, gcd-dvdʳ}
use Rattle.theory_vectors.specs.Relation.{Rel, rel-refl, rel-+, rel-*ˡ}
use Rattle.rules.specs.Values.{Fraction, reduce, quotient, plus, midpoint}
use Rattle.theory_bounds.specs.Below.{Positive, Below, Same, same_by, below-sameˡ, below-sameʳ}

abbrev pub over : ℤ → ℕ → Fraction
over n d = record { numerator = n; denominator = d }

-- ---- reducing
cross : (n d q e g : ℤ) → g *ℤ q ≡ n → g *ℤ e ≡ d → n *ℤ e ≡ q *ℤ d
cross n d q e g h k = rw (← h, ← k) (simp ring)

pub reduce-same : (n : ℤ) (d : ℕ) → 0 < d → Same (over n d) (reduce n d)
unfolding reduce
reduce-same n d p =
    let g = gcd (nat_abs n) d in
    let e : g * (d / g) ≡ d = mul-div_cancel' g (gcd-dvdʳ (nat_abs n) d) in
    let q : 0 < d / g = pos_of_dvd_of_pos (dvd-mul_left (d / g) g) (rw e p) in
    same_by p q (cross n (pos d) (quot_z n (pos g)) (pos (d / g)) (pos g) (*-quot g n (gcd-dvdˡ (nat_abs n) d)) (ap pos e))

pub reduce-positive : (n : ℤ) (d : ℕ) → 0 < d → Positive (reduce n d)
reduce-positive n d p = (reduce-same n d p).up.right

-- what every reduced fraction has
abbrev pub OfReduced : (Fraction → Type 0) → Type 0
OfReduced P = (n : ℤ) (d : ℕ) → 0 < d → P (reduce n d)

pub quotient-has : (P : Fraction → Type 0) → OfReduced P → (n a : ℤ) (d : ℕ) → 0 < nat_abs a → 0 < d → P (quotient n a d)
unfolding quotient
quotient-has P h n (pos a) d z p = h n (a * d) (mul-pos z p)
quotient-has P h n (negsuc a) d z p = h (neg_ℤ n) (suc a * d) (mul-pos (omega arith) p)

-- a quotient by a positive or a negative number, the sign in the numerator
pub quotient-positive : (n c : ℤ) (d : ℕ) → T (is_positive c) → 0 < d → Same (over n (nat_abs c * d)) (quotient n c d)
unfolding quotient is_positive
quotient-positive n (pos zero) d h p = absurd h
quotient-positive n (pos (suc a)) d h p = reduce-same n (suc a * d) (mul-pos (omega arith) p)
quotient-positive n (negsuc a) d h p = absurd h

pub quotient-negative : (n c : ℤ) (d : ℕ) → T (is_negative c) → 0 < d → Same (over (neg_ℤ n) (nat_abs c * d)) (quotient n c d)
unfolding quotient is_negative
quotient-negative n (pos a) d h p = absurd h
quotient-negative n (negsuc a) d h p = reduce-same (neg_ℤ n) (suc a * d) (mul-pos (omega arith) p)

-- ---- one more, one less
after : (n d : ℤ) → pos 0 <ℤ d → (n *ℤ d) <ℤ ((n +ℤ pos 1 *ℤ d) *ℤ d)
after n d z = <-by (v n ⊗ v d) ((v n ⊕ # 1 ⊗ v d) ⊗ v d) (omega (arith, <-from (# 0) (v d ⊗ v d) (*-positive z z)))

before : (n d : ℤ) → pos 0 <ℤ d → ((n +ℤ neg_ℤ (pos 1) *ℤ d) *ℤ d) <ℤ (n *ℤ d)
before n d z = <-by ((v n ⊕ ⊝ (# 1) ⊗ v d) ⊗ v d) (v n ⊗ v d) (omega (arith, <-from (# 0) (v d ⊗ v d) (*-positive z z)))

pub plus-one-above : (x : Fraction) → Positive x → Below true x (plus x (pos 1))
unfolding plus
plus-one-above x p =
    below-sameʳ (reduce-same (x.numerator +ℤ pos 1 *ℤ pos x.denominator) x.denominator p)
    (record { left = p; right = p; by = record { by = after x.numerator (pos x.denominator) (pos-mono-< p) } })

pub minus-one-below : (x : Fraction) → Positive x → Below true (plus x (negsuc 0)) x
unfolding plus
minus-one-below x p =
    below-sameˡ (reduce-same (x.numerator +ℤ negsuc 0 *ℤ pos x.denominator) x.denominator p)
    (record { left = p; right = p; by = record { by = before x.numerator (pos x.denominator) (pos-mono-< p) } })

-- ---- the midpoint: from n × e < m × d, twice n × (d × e) is below d × (n × e) + d × (m × d), and so on the other side
twiceˡ : (n d e : ℤ) → n *ℤ (pos 2 *ℤ (d *ℤ e)) ≡ d *ℤ (n *ℤ e) +ℤ d *ℤ (n *ℤ e)
twiceˡ n d e = ≡-by (v n ⊗ (# 2 ⊗ (v d ⊗ v e))) (v d ⊗ (v n ⊗ v e) ⊕ v d ⊗ (v n ⊗ v e)) (omega arith)

twiceʳ : (m d e : ℤ) → m *ℤ (pos 2 *ℤ (d *ℤ e)) ≡ e *ℤ (m *ℤ d) +ℤ e *ℤ (m *ℤ d)
twiceʳ m d e = ≡-by (v m ⊗ (# 2 ⊗ (v d ⊗ v e))) (v e ⊗ (v m ⊗ v d) ⊕ v e ⊗ (v m ⊗ v d)) (omega arith)

spread : (a b d : ℤ) → (a +ℤ b) *ℤ d ≡ d *ℤ a +ℤ d *ℤ b
spread a b d = simp ring

above : (n d m e : ℤ) → pos 0 <ℤ d → Rel true (n *ℤ e) (m *ℤ d) → Rel true (n *ℤ (pos 2 *ℤ (d *ℤ e))) ((n *ℤ e +ℤ m *ℤ d) *ℤ d)
above n d m e z h = rw (twiceˡ n d e, spread (n *ℤ e) (m *ℤ d) d) (rel-+ (rel-refl (d *ℤ (n *ℤ e))) (rel-*ˡ z h))

below : (n d m e : ℤ) → pos 0 <ℤ e → Rel true (n *ℤ e) (m *ℤ d) → Rel true ((n *ℤ e +ℤ m *ℤ d) *ℤ e) (m *ℤ (pos 2 *ℤ (d *ℤ e)))
below n d m e z h = rw (twiceʳ m d e, spread (n *ℤ e) (m *ℤ d) e) (rel-+ (rel-*ˡ z h) (rel-refl (e *ℤ (m *ℤ d))))

middle : (x y : Fraction) → Positive x → Positive y → Same (over
    (x.numerator *ℤ pos y.denominator +ℤ y.numerator *ℤ pos x.denominator) (2 * (x.denominator * y.denominator))) (midpoint x y)
unfolding midpoint
middle x y p q = reduce-same (x.numerator *ℤ pos y.denominator +ℤ y.numerator *ℤ pos x.denominator)
    (2 * (x.denominator * y.denominator)) (mul-pos (omega arith) (mul-pos p q))

module _ (x y : Fraction) (h : Below true x y) where
  pub midpoint-above : Below true x (midpoint x y)
  midpoint-above =
      let m = middle x y h.left h.right in
      below-sameʳ m (record {
        left = h.left;
        right = m.up.left;
        by = above x.numerator (pos x.denominator) y.numerator (pos y.denominator) (pos-mono-< h.left) h.by;
      })

  pub midpoint-below : Below true (midpoint x y) y
  midpoint-below =
      let m = middle x y h.left h.right in
      below-sameˡ m (record {
        left = m.up.left;
        right = h.right;
        by = below x.numerator (pos x.denominator) y.numerator (pos y.denominator) (pos-mono-< h.right) h.by;
      })
