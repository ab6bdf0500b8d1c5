-- Signs turned or not: sums, products and sizes of what a comparison is read as.
use Rattle.std.specs.Prelude.{◌≡◌, refl, Bool, true, false, List, [], ◌∷◌, map, ℕ, zero, suc, ℤ, pos, negsuc, nat_abs, ◌+ℤ◌, ◌*ℤ◌, get_or}
use Rattle.std.proofs.Common.{sym, ap, ◌∙◌}
use Rattle.theory_integers.specs.Ring.{neg-distribˡ-*, neg-distrib-+}
use Rattle.theory_integers.specs.Size.{abs_neg}
use Rattle.rules.specs.Arithmetic.{sum, is_zero}
use Rattle.rules.specs.Readings.{signed}

pub signed-zero : (t : Bool) → signed t (pos 0) ≡ pos 0
unfolding signed
signed-zero false = refl
signed-zero true = refl

pub signed-* : (t : Bool) (a b : ℤ) → signed t a *ℤ b ≡ signed t (a *ℤ b)
unfolding signed
signed-* false a b = refl
signed-* true a b = neg-distribˡ-* a b

signed-+ : (t : Bool) (a b : ℤ) → signed t a +ℤ signed t b ≡ signed t (a +ℤ b)
unfolding signed
signed-+ false a b = refl
signed-+ true a b = sym (neg-distrib-+ a b)

pub abs-signed : (t : Bool) (z : ℤ) → nat_abs (signed t z) ≡ nat_abs z
unfolding signed
abs-signed false z = refl
abs-signed true z = abs_neg z

pub is_zero-signed : (t : Bool) (z : ℤ) → is_zero (signed t z) ≡ is_zero z
unfolding signed is_zero
is_zero-signed false z = refl
is_zero-signed true (pos zero) = refl
is_zero-signed true (pos (suc n)) = refl
is_zero-signed true (negsuc n) = refl

pub signed_same : (zs : List ℤ) → map (signed false) zs ≡ zs
unfolding signed
signed_same [] = refl
signed_same (z ∷ zs) = ap (λ (t : List ℤ). z ∷ t) (signed_same zs)

pub get_or-signed : (t : Bool) (zs : List ℤ) (i : ℕ) → get_or (map (signed t) zs) i (pos 0) ≡ signed t (get_or zs i (pos 0))
get_or-signed t [] i = sym (signed-zero t)
get_or-signed t (z ∷ zs) zero = refl
get_or-signed t (z ∷ zs) (suc i) = get_or-signed t zs i

pub sum-signed : (t : Bool) (cs : List ℤ) (x : ℕ → ℤ) → sum (map (signed t) cs) x ≡ signed t (sum cs x)
unfolding sum
sum-signed t [] x = sym (signed-zero t)
sum-signed t (c ∷ cs) x =
    (λ i. signed-* t c (x 0) i +ℤ sum-signed t cs (λ j. x (suc j)) i) ∙ signed-+ t (c *ℤ x 0) (sum cs (λ j. x (suc j)))
