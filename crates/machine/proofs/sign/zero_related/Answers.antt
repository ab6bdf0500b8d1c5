-- `sign::zero_related` meets its contract: 0 < bound where strict, and not bound < 0 where not.
use mathlib.Core.Path.{sym, ap, ◌∙◌}
use mathlib.Core.Bool.{Bool, not}
use lib.IntN.{pos}
use mir.Syntax.{w64}
use mir.Facts.{to_z-of_z}
use borrow.Author.Rules.{rules}
use Rattle.rules.specs.Arithmetic.{is_positive, is_negative, related}
use Rattle.machine.specs.Related.{related-strict, related-weak}
use Rattle.machine.proofs.sign.zero_related.Goals as goal

pub returns-then-strict : goal.returns-then-strict
returns-then-strict c =
    c.is_positive.ensures ∙ ap is_positive (to_z-of_z {w = w64} c.ranges.bound) ∙ sym (related-strict c.args.bound)
    ∙ ap (λ (t : Bool). related t (pos 0) c.args.bound) (sym c.if-strict.true)

pub returns : goal.returns
returns c =
    ap not (c.is_negative.ensures ∙ ap is_negative (to_z-of_z {w = w64} c.ranges.bound)) ∙ sym (related-weak c.args.bound)
    ∙ ap (λ (t : Bool). related t (pos 0) c.args.bound) (sym c.if-strict.false)
