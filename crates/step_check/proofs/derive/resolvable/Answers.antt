-- `derive::resolvable` meets its contract. Assumes nothing.
use mathlib.Core.Path.{◌≡◌, sym, ◌∙◌}
use mathlib.Core.Bool.{true, false}
use borrow.Author.Tests.{not-true, not-false}
use Rattle.rules.specs.Lines.{boolean, positively}
use Rattle.rules.specs.Checker.{pairable}
use Rattle.lines.specs.Line.{meaning}
use Rattle.step_check.specs.Derived.{suited-upper, suited-lower, suited-pair}
use borrow.Author.Rules.{rules}
use Rattle.step_check.proofs.derive.resolvable.Goals as goal
use Rattle.step_check.proofs.derive.resolvable.Goals.{Else-not-has_positive_boolean}

pub returns-then-not-has_positive_boolean : goal.returns-then-not-has_positive_boolean
returns-then-not-has_positive_boolean c =
    let t : c.has_positive_boolean.result ≡ false = search (rules, not-true, not-false, c.if-not-has_positive_boolean) in
    sym (suited-upper (boolean c.args.i) (meaning c.args.upper) (meaning c.args.lower)
    (sym c.has_positive_boolean.ensures ∙ t))

upper-yes : (c : Else-not-has_positive_boolean) → positively (boolean c.args.i) (meaning c.args.upper) ≡ true
upper-yes c = let t : c.has_positive_boolean.result ≡ true = search (rules, not-true, not-false, c.if-not-has_positive_boolean) in
    sym c.has_positive_boolean.ensures ∙ t

pub returns-then-not-has_negative_boolean : goal.returns-then-not-has_negative_boolean
returns-then-not-has_negative_boolean c =
    let t : c.has_negative_boolean.result ≡ false = search (rules, not-true, not-false, c.if-not-has_negative_boolean) in
    sym (suited-lower (boolean c.args.i) (meaning c.args.upper) (meaning c.args.lower)
    (upper-yes (goal.at.returns-then-not-has_negative_boolean c).Else-not-has_positive_boolean)
    (sym c.has_negative_boolean.ensures ∙ t))

pub returns : goal.returns
unfolding pairable
returns c =
    let t : c.has_negative_boolean.result ≡ true = search (rules, not-true, not-false, c.if-not-has_negative_boolean) in
    c.single.ensures ∙ sym (suited-pair (boolean c.args.i) (meaning c.args.upper) (meaning c.args.lower)
    (upper-yes (goal.at.returns c).Else-not-has_positive_boolean) (sym c.has_negative_boolean.ensures ∙ t))
