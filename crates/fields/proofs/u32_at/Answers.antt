-- `fields::u32_at` meets its contract. Assumes nothing.
use mathlib.Core.Path.{sym, ◌∙◌}
use Rattle.theory_bytes.specs.Fields.{field_at-4}
use borrow.Author.Rules.{rules}
use Rattle.fields.proofs.u32_at.Goals as goal

pub returns : goal.returns
returns c =
    c.joined.ensures ∙ sym (field_at-4 c.args.at c.args.s.now c.requires)
