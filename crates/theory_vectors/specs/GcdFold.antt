-- The greatest common divisor of several integers, one after another from the front.
use Rattle.std.specs.Prelude.{◌≡◌, ◌⊎◌, List, [], ◌∷◌, ℕ, suc, ◌+◌, ◌≤◌, ◌<◌, ℤ, pos, nat_abs, length, get_or, drop}
use Rattle.std.proofs.Common.{ap, inl, inr, eq-zero-or-pos, le_trans, add-one, arith, drop_of_length-le, drop-cons}
use Rattle.std.specs.Int.{◌∣◌}
use Rattle.std.proofs.Math.Nat.{dvd_trans, dvd_antisymm, eq-one_of_dvd-one, le_of_dvd}
use Rattle.rules.specs.Arithmetic.{gcd, gcd_all}
use Rattle.theory_vectors.specs.Gcd.{gcd-dvdˡ, gcd-dvdʳ, gcd-greatest, gcd-zeroˡ, gcd-zeroʳ}

pub gcd-oneˡ : (b : ℕ) → gcd 1 b ≡ 1
gcd-oneˡ b = eq-one_of_dvd-one (gcd-dvdˡ 1 b)

pub gcd-assoc : (a b c : ℕ) → gcd (gcd a b) c ≡ gcd a (gcd b c)
gcd-assoc a b c =
    let l = gcd (gcd a b) c in
    let r = gcd a (gcd b c) in
    let la : l ∣ gcd a b = gcd-dvdˡ (gcd a b) c in
    let rb : r ∣ gcd b c = gcd-dvdʳ a (gcd b c) in
    dvd_antisymm
    (gcd-greatest l (dvd_trans l la (gcd-dvdˡ a b)) (gcd-greatest l (dvd_trans l la (gcd-dvdʳ a b)) (gcd-dvdʳ (gcd a b) c)))
    (gcd-greatest r (gcd-greatest r (gcd-dvdˡ a (gcd b c)) (dvd_trans r rb (gcd-dvdˡ b c))) (dvd_trans r rb (gcd-dvdʳ b c)))

-- ---- of several integers
pub gcd_all-≤ : (m : ℕ) (zs : List ℤ) → ((i : ℕ) → nat_abs (get_or zs i (pos 0)) ≤ m) → gcd_all zs ≤ m
unfolding gcd_all
gcd_all-≤ m [] h = omega arith
gcd_all-≤ m (z ∷ zs) h = by (gcd_all-≤ m zs (λ i. h (suc i))) (eq-zero-or-pos (nat_abs z))
  where
    by : gcd_all zs ≤ m → (nat_abs z ≡ 0) ⊎ (0 < nat_abs z) → gcd (nat_abs z) (gcd_all zs) ≤ m
    by r (inl e) = omega (arith, ap (λ (n : ℕ). gcd n (gcd_all zs)) e, gcd-zeroˡ (gcd_all zs))
    by r (inr p) = le_trans (le_of_dvd p (gcd-dvdˡ (nat_abs z) (gcd_all zs))) (h 0)

-- from the front: what is left from place i on
pub gcd_all-next : (g : ℕ) (zs : List ℤ) (i : ℕ) → i < length zs
    → gcd (gcd g (nat_abs (get_or zs i (pos 0)))) (gcd_all (drop (i + 1) zs)) ≡ gcd g (gcd_all (drop i zs))
unfolding gcd_all
gcd_all-next g zs i h = rw (add-one i, drop-cons zs i (pos 0)) (gcd-assoc g (nat_abs (get_or zs i (pos 0))) (gcd_all (drop (suc i) zs)))

pub gcd_all-end : (g : ℕ) (zs : List ℤ) (i : ℕ) → length zs ≤ i → gcd g (gcd_all (drop i zs)) ≡ g
unfolding gcd_all
gcd_all-end g zs i h = rw (drop_of_length-le zs {i = i} h) (gcd-zeroʳ g)
