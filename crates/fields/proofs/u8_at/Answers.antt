-- `u8_at` meets its contract. Assumes nothing.
use mathlib.Core.Path.{sym}
use native.Mathlib.Omega.{arith}
use Rattle.theory_bytes.specs.Fields.{field_at-1}
use borrow.Author.Rules.{rules}
use Rattle.fields.proofs.u8_at.Goals as goal

pub returns : goal.returns
returns c = let s = c.args in sym (field_at-1 s.at s.s.now (omega arith))
