-- Products of amounts: 64 bits hold a sum of eight of them, and a product of an amount and 32 bits.
use Rattle.std.specs.Prelude.{◌≡◌, List, ℕ, ◌^◌, ◌≤◌, ◌<◌, ℤ, pos, nat_abs, ◌+ℤ◌, ◌*ℤ◌, get_or}
use Rattle.std.proofs.Common.{arith, SFits, of_z, to_z, to_z-of_z}
use Rattle.std.specs.Int.{w64}
use Rattle.theory_integers.specs.Size.{abs-+-≤, abs-*-≤}
use Rattle.rules.specs.Arithmetic.{combine}
use Rattle.theory_vectors.specs.Amounts.{Small, Amounts}
use Rattle.theory_vectors.specs.Dot.{get_or-combine}
use Rattle.machine.specs.Signed.{fits-size}

-- an amount is what its bits say
pub amount-bits : (z : ℤ) → Small z → to_z w64 (of_z w64 z) ≡ z
amount-bits z h = to_z-of_z (fits-size z (omega arith))

module _ (c x : ℤ) (hc : Small c) (hx : Small x) where
  pub product-≤ : nat_abs (c *ℤ x) ≤ 1000000000000000000
  product-≤ = abs-*-≤ c x hc hx

  pub product-fits : SFits w64 (c *ℤ x)
  product-fits = fits-size (c *ℤ x) (omega (arith, product-≤))

module _ (t z x : ℤ) (ht : nat_abs t ≤ 7000000000000000000) (hz : Small z) (hx : Small x) where
  pub plus-product-fits : SFits w64 (t +ℤ z *ℤ x)
  plus-product-fits = fits-size (t +ℤ z *ℤ x) (omega (arith, abs-+-≤ t (z *ℤ x) ht (product-≤ z x hz hx)))

pub scaled_fits : (z : ℤ) (n : ℕ) → Small z → n < 2 ^ 32 → SFits w64 (z *ℤ pos n)
scaled_fits z n hz hn =
    let hx : nat_abs (pos n) ≤ 4294967296 = omega arith in
    fits-size (z *ℤ pos n) (omega (arith, abs-*-≤ z (pos n) hz hx))

module _ (c x a y : ℤ) (hc : Small c) (hx : Small x) (ha : Small a) (hy : Small y) where
  pub combination-≤ : nat_abs (c *ℤ x +ℤ a *ℤ y) ≤ 2000000000000000000
  combination-≤ = abs-+-≤ (c *ℤ x) (a *ℤ y) (product-≤ c x hc hx) (product-≤ a y ha hy)

  pub combination-fits : SFits w64 (c *ℤ x +ℤ a *ℤ y)
  combination-fits = fits-size (c *ℤ x +ℤ a *ℤ y) (omega (arith, combination-≤))

pub combine-≤ : (c : ℤ) (us : List ℤ) (a : ℤ) (ls : List ℤ) → Small c → Amounts us → Small a → Amounts ls
    → (i : ℕ) → nat_abs (get_or (combine c us a ls) i (pos 0)) ≤ 2000000000000000000
combine-≤ c us a ls hc hu ha hl i =
    rw (get_or-combine c us a ls i) (combination-≤ c (get_or us i (pos 0)) a (get_or ls i (pos 0)) hc (hu.small i) ha (hl.small i))
