-- A bound related to 0, by its sign.
use Rattle.std.specs.Prelude.{◌≡◌, refl, true, false, not, ℤ, pos, negsuc}
use Rattle.std.proofs.Common.{arith, le-leb}
use Rattle.rules.specs.Arithmetic.{is_positive, is_negative, related}
use Rattle.machine.specs.Signed.{positive-test}

pub related-strict : (z : ℤ) → related true (pos 0) z ≡ is_positive z
unfolding related
related-strict z = positive-test z

pub related-weak : (z : ℤ) → related false (pos 0) z ≡ not (is_negative z)
unfolding related is_negative
related-weak (pos n) = le-leb 0 n (omega arith)
related-weak (negsuc n) = refl
