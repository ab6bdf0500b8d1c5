-- `fields::amount_at` meets its contract. Assumes nothing.
use native.Mathlib.Omega.{arith}
use mathlib.Core.Path.{ap, ◌∙◌}
use mir.Syntax.{w64}
use mir.Facts.{to_z-of_z}
use borrow.Author.Rules.{sfits_of}
use Rattle.rules.specs.Bytes.{from_unsigned}
use Rattle.theory_bytes.specs.Fields.{field_at-<}
use borrow.Author.Rules.{rules}
use Rattle.fields.proofs.amount_at.Goals as goal

pub signed-requires : goal.signed-requires
signed-requires c =
    rw c.u32_at.ensures (field_at-< c.args.at 4 c.args.s.now (λ i. omega (arith, c.shared_slice_known-1.given i)))

pub returns : goal.returns
returns c = to_z-of_z {w = w64} (sfits_of c.signed.type_inv) ∙ c.signed.ensures ∙ ap from_unsigned c.u32_at.ensures
