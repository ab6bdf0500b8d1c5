-- `fields::signed` meets its contract. Assumes nothing.
use mathlib.Core.Path.{◌≡◌, sym, ◌∙◌}
use Prim.Native.Nat.{ℕ, ◌-◌, ◌<◌, ◌≤◌}
use native.Mathlib.Omega.{arith}
use lib.IntN.{pos}
use mir.Syntax.{w64}
use mir.Val.{to_z, SFits}
use mir.Facts.{to_z-of_z, to_z_pos}
use borrow.Author.Rules.{rules}
use Rattle.rules.specs.Bytes.{from_unsigned}
use Rattle.theory_bytes.specs.Amounts.{from_unsigned-low, from_unsigned-high}
use Rattle.fields.specs.Field.{from_unsigned-minus}
use Rattle.fields.proofs.signed.Goals as goal

-- the number as an i64, and the amount
widened : (n : ℕ) → n < 4294967296 → to_z w64 n ≡ pos n
widened n h = to_z_pos w64 (omega arith)

high_fits : (n : ℕ) → 2147483648 ≤ n → SFits w64 (from_unsigned n)
high_fits n h = rw (from_unsigned-high n h) (record { sfits = omega arith })

pub returns-then-n-lt2147483648 : goal.returns-then-n-lt2147483648
returns-then-n-lt2147483648 c = let n = c.args.n in widened n c.requires ∙ sym (from_unsigned-low n c.if-n-lt2147483648.true)

pub overflow_sub-result : goal.overflow_sub-result
overflow_sub-result c =
    let n = c.args.n in
    rw (widened n c.requires, from_unsigned-minus n c.if-n-lt2147483648.false c.requires) (high_fits n c.if-n-lt2147483648.false)

pub returns : goal.returns
returns c =
    let n = c.args.n in
    rw (widened n c.requires, from_unsigned-minus n c.if-n-lt2147483648.false c.requires)
    (to_z-of_z (high_fits n c.if-n-lt2147483648.false))
