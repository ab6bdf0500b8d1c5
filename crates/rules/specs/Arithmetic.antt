-- Divisors, sums of products, and the two relations. All numbers are unbounded.
use Rattle.std.specs.Prelude.{Bool, true, false, List, [], ◌∷◌, ℕ, zero, suc, ◌*◌, ◌/◌, ◌%◌, ℤ, pos, negsuc, nat_abs, ◌+ℤ◌, ◌*ℤ◌, eqb}
use Rattle.std.specs.Int.Signed.{le_z, lt_z}

-- the greatest common divisor, by at most so many of Euclid's steps; b of them are enough
unfoldable pub gcd_within : ℕ → ℕ → ℕ → ℕ
gcd_within zero a b = a
gcd_within (suc k) a zero = a
gcd_within (suc k) a (suc b) = gcd_within k (suc b) (a % suc b)

unfoldable pub gcd : ℕ → ℕ → ℕ
gcd a b = gcd_within b a b

-- of the sizes of several integers
unfoldable pub gcd_all : List ℤ → ℕ
gcd_all [] = 0
gcd_all (z ∷ zs) = gcd (nat_abs z) (gcd_all zs)

-- the least common multiple of two numbers of at least 1
unfoldable pub lcm : ℕ → ℕ → ℕ
lcm a b = a / gcd a b * b

-- sum of coefficient × value
unfoldable pub sum : List ℤ → (ℕ → ℤ) → ℤ
sum [] x = pos 0
sum (c ∷ cs) x = c *ℤ x 0 +ℤ sum cs (λ i. x (suc i))

-- c times each; c × us + a × ls, where a coefficient that one of them lacks is 0
unfoldable pub scale : ℤ → List ℤ → List ℤ
scale c [] = []
scale c (u ∷ us) = (c *ℤ u) ∷ scale c us

unfoldable pub combine : ℤ → List ℤ → ℤ → List ℤ → List ℤ
combine c [] a ls = scale a ls
combine c (u ∷ us) a [] = scale c (u ∷ us)
combine c (u ∷ us) a (l ∷ ls) = (c *ℤ u +ℤ a *ℤ l) ∷ combine c us a ls

-- a ≤ b, or a < b where strict
unfoldable pub related : Bool → ℤ → ℤ → Bool
related false a b = le_z a b
related true a b = lt_z a b

unfoldable pub is_positive : ℤ → Bool
is_positive (pos zero) = false
is_positive (pos (suc n)) = true
is_positive (negsuc n) = false

unfoldable pub is_negative : ℤ → Bool
is_negative (pos n) = false
is_negative (negsuc n) = true

unfoldable pub is_zero : ℤ → Bool
is_zero (pos zero) = true
is_zero (pos (suc n)) = false
is_zero (negsuc n) = false

unfoldable pub equal : ℤ → ℤ → Bool
equal (pos a) (pos b) = eqb a b
equal (pos a) (negsuc b) = false
equal (negsuc a) (pos b) = false
equal (negsuc a) (negsuc b) = eqb a b
