-- `masks::with` meets its contract: a member's power of two is put in. Assumes nothing.
use mathlib.Core.Path.{sym, ap, ◌∙◌}
use Prim.Native.Nat.{ℕ}
use lib.Bits.{bit_or}
use Rattle.rules_types.specs.Limits as limit
use Rattle.masks.specs.Mask.{bits, shift_is, including-bits, including-beyond}
use Rattle.masks.proofs.with.Goals as goal

pub returns-then-i-ge-ALL_BOOLEANS : goal.returns-then-i-ge-ALL_BOOLEANS
returns-then-i-ge-ALL_BOOLEANS c = sym (including-beyond limit.all_booleans c.args.mask c.args.i c.if-i-ge-ALL_BOOLEANS.true)

pub returns-else-i-ge-ALL_BOOLEANS : goal.returns-else-i-ge-ALL_BOOLEANS
returns-else-i-ge-ALL_BOOLEANS c =
    ap (λ (n : ℕ). bits limit.all_booleans (bit_or c.args.mask n)) (shift_is c.args.i c.if-i-ge-ALL_BOOLEANS.false)
    ∙ sym (including-bits limit.all_booleans c.args.mask c.args.i)
