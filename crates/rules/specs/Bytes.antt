-- "Multi-byte fields are little-endian, amounts signed 32-bit."
use Rattle.std.specs.Prelude.{cond, List, [], ◌∷◌, ◌++◌, ℕ, zero, suc, ◌+◌, ◌*◌, ◌-◌, ◌/◌, ◌%◌, ℤ, pos, negsuc, ltb, length, replicate}
use Rattle.std.specs.Prelude.{take, drop}

-- a number in k bytes, the lowest first, and back
unfoldable pub to_bytes : ℕ → ℕ → List ℕ
to_bytes zero n = []
to_bytes (suc k) n = n % 256 ∷ to_bytes k (n / 256)

unfoldable pub from_bytes : List ℕ → ℕ
from_bytes [] = 0
from_bytes (x ∷ xs) = x + 256 * from_bytes xs

-- an amount and its four bytes' number: from 2^31 on it stands for itself less 2^32
unfoldable pub from_unsigned : ℕ → ℤ
from_unsigned n = cond (ltb n 2147483648) (pos n) (negsuc (4294967295 - n))

unfoldable pub to_unsigned : ℤ → ℕ
to_unsigned (pos n) = n
to_unsigned (negsuc n) = 4294967295 - n

unfoldable pub amount_bytes : List ℤ → List ℕ
amount_bytes [] = []
amount_bytes (z ∷ zs) = to_bytes 4 (to_unsigned z) ++ amount_bytes zs

-- the field of so many bytes at a place
unfoldable pub field_at : ℕ → ℕ → List ℕ → ℕ
field_at place size bytes = from_bytes (take size (drop place bytes))

-- zeros up to a length
unfoldable pub padded : ℕ → List ℕ → List ℕ
padded n bytes = bytes ++ replicate (n - length bytes) 0
