-- The order of fractions by crossed products, strict or not. It holds only of positive denominators, so its laws have no premises.
use Rattle.std.specs.Prelude.{◌≡◌, Bool, true, false, not, ◌||◌, ◌<◌, ℤ, pos, ◌*ℤ◌, ◌<ℤ◌, T}
use Rattle.std.proofs.Common.{sym}
use Rattle.theory_integers.specs.Ring.{ring}
use Rattle.theory_integers.specs.Natural.{pos-mono-<}
use Rattle.rules.specs.Arithmetic.{related}
use Rattle.theory_vectors.specs.Relation.{Rel, related-yes, related-no, rel-refl, rel-reflexive, rel-weaken, rel-strict, rel-orˡ, rel-orʳ}
use Rattle.theory_vectors.specs.Relation.{rel-trans, rel-*ˡ, rel-*-cancelˡ}
use Rattle.rules.specs.Values.{Fraction, less}

abbrev pub Positive : Fraction → Type 0
Positive x = 0 < x.denominator

-- x ≤ y, or x < y where strict
pub record Below (strict : Bool) (x y : Fraction) : Type 0 where
  pub left : Positive x
  pub right : Positive y
  pub by : Rel strict (x.numerator *ℤ pos y.denominator) (y.numerator *ℤ pos x.denominator)

pub below-refl : (x : Fraction) → Positive x → Below false x x
below-refl x p = record { left = p; right = p; by = rel-refl (x.numerator *ℤ pos x.denominator) }

-- both crossed comparisons times the third denominator meet at b × (p × r), and the middle denominator cancels
swapped : (p a q : ℤ) → p *ℤ (a *ℤ q) ≡ q *ℤ (a *ℤ p)
swapped p a q = simp ring

chain : {s t : Bool} (a p b q c r : ℤ) → pos 0 <ℤ p → pos 0 <ℤ q → pos 0 <ℤ r → Rel s (a *ℤ q) (b *ℤ p) → Rel t (b *ℤ r) (c *ℤ q)
    → Rel (s || t) (a *ℤ r) (c *ℤ p)
chain a p b q c r zp zq zr h k =
    rel-*-cancelˡ (a *ℤ r) (c *ℤ p) zq (rw (swapped q a r, swapped q c p) (rel-trans (rel-*ˡ zr h) (rw (swapped r b p) (rel-*ˡ zp k))))

pub below-trans : {s t : Bool} {x y z : Fraction} → Below s x y → Below t y z → Below (s || t) x z
below-trans {x} {y} {z} h k =
    record {
      left = h.left;
      right = k.right;
      by = chain x.numerator (pos x.denominator) y.numerator (pos y.denominator) z.numerator (pos z.denominator)
          (pos-mono-< h.left) (pos-mono-< h.right) (pos-mono-< k.right) h.by k.by;
    }

-- ---- strict and not
pub below-strict : {s : Bool} {x y : Fraction} → Below true x y → Below s x y
below-strict h = record { left = h.left; right = h.right; by = rel-strict h.by }

pub below-weaken : {s : Bool} {x y : Fraction} → Below s x y → Below false x y
below-weaken h = record { left = h.left; right = h.right; by = rel-weaken h.by }

pub below-orˡ : (s t : Bool) {x y : Fraction} → Below (s || t) x y → Below s x y
below-orˡ s t h = record { left = h.left; right = h.right; by = rel-orˡ s t h.by }

pub below-orʳ : (s t : Bool) {x y : Fraction} → Below (s || t) x y → Below t x y
below-orʳ s t h = record { left = h.left; right = h.right; by = rel-orʳ s t h.by }

-- ---- the test decides it
pub less-yes : (x y : Fraction) → Positive x → Positive y → T (less x y) → Below true x y
unfolding less related
less-yes x y p q t = record {
  left = p;
  right = q;
  by = related-yes true (x.numerator *ℤ pos y.denominator) (y.numerator *ℤ pos x.denominator) t;
}

pub less-no : (x y : Fraction) → Positive x → Positive y → T (not (less x y)) → Below false y x
unfolding less related
less-no x y p q t = record {
  left = q;
  right = p;
  by = related-no true (x.numerator *ℤ pos y.denominator) (y.numerator *ℤ pos x.denominator) t;
}

-- ---- the same number
pub record Same (x y : Fraction) : Type 0 where
  pub up : Below false x y
  pub down : Below false y x

pub same_by : {x y : Fraction} → Positive x → Positive y
    → x.numerator *ℤ pos y.denominator ≡ y.numerator *ℤ pos x.denominator → Same x y
same_by p q e =
    record {
      up = record { left = p; right = q; by = rel-reflexive e };
      down = record { left = q; right = p; by = rel-reflexive (sym e) };
    }

pub same-sym : {x y : Fraction} → Same x y → Same y x
same-sym e = record { up = e.down; down = e.up }

pub same-trans : {x y z : Fraction} → Same x y → Same y z → Same x z
same-trans h k = record { up = below-trans h.up k.up; down = below-trans k.down h.down }

or-false : (s : Bool) {x y : Fraction} → Below (s || false) x y → Below s x y
or-false false h = h
or-false true h = h

-- either side of the order may be replaced
pub below-sameˡ : {s : Bool} {x y z : Fraction} → Same x y → Below s x z → Below s y z
below-sameˡ e h = below-trans e.down h

pub below-sameʳ : {s : Bool} {x y z : Fraction} → Same y z → Below s x y → Below s x z
below-sameʳ {s} e h = or-false s (below-trans h e.up)
