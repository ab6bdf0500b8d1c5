-- `fields::put_amount` meets its contract. Assumes nothing.
use mathlib.Core.Path.{ap, ◌∙◌}
use mir.Facts.{to_z-of_z}
use Prim.Native.Nat.{ℕ}
use Rattle.rules.specs.Bytes.{to_bytes}
use Rattle.fields.specs.Field.{stored}
use borrow.Author.Rules.{rules}
use Rattle.fields.proofs.put_amount.Goals as goal

pub returns : goal.returns
returns c =
    let e = rw (to_z-of_z c.ranges.z) at c.unsigned.ensures in
    c.put_u32.ensures ∙ ap (λ (n : ℕ). stored c.args.at (to_bytes 4 n) c.args.s.now) e
