-- `fields::u16_at` meets its contract. Assumes nothing.
use native.Mathlib.Omega.{arith}
use Rattle.theory_bytes.specs.Fields.{field_at-2}
use borrow.Author.Rules.{rules}
use Rattle.fields.proofs.u16_at.Goals as goal

pub returns : goal.returns
returns c =
    omega (arith, c.joined.ensures, field_at-2 c.args.at c.args.s.now c.requires)
