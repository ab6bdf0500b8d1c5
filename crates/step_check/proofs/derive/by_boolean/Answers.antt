-- `derive::by_boolean` meets its contract. Assumes nothing.
use mathlib.Core.Path.{◌≡◌, sym, ◌∙◌}
use mathlib.Core.Bool.{true, false}
use borrow.Author.Tests.{not-true, not-false}
use Rattle.rules.specs.Lines.{boolean}
use Rattle.lines.specs.Line.{meaning}
use Rattle.step_check.specs.Derived.{suited-upper}
use Rattle.step_check.specs.Made.{holds-derived, holds-no, gives-own, boolean-beyond}
use borrow.Author.Rules.{rules}
use Rattle.step_check.proofs.derive.by_boolean.Goals as goal
use Rattle.step_check.proofs.derive.by_boolean.Goals.{Else-not-resolvable, Then-not-resolvable}

pub returns-then-i-ge-ALL_BOOLEANS : goal.returns-then-i-ge-ALL_BOOLEANS
returns-then-i-ge-ALL_BOOLEANS c =
    let u = meaning c.args.upper in
    let l = meaning c.args.lower in
    holds-no (boolean c.args.i) u l (suited-upper (boolean c.args.i) u l
    (boolean-beyond c.args.i c.args.upper c.if-i-ge-ALL_BOOLEANS.true)) c.unstated.ensures

pub returns-then-not-resolvable : goal.returns-then-not-resolvable
returns-then-not-resolvable c =
    let t : c.resolvable.result ≡ false = search (
      rules,
      not-true,
      not-false,
      (goal.at.returns-then-not-resolvable c).Then-not-resolvable,
    ) in
    holds-no (boolean c.args.i) (meaning c.args.upper) (meaning c.args.lower)
    (sym c.resolvable.ensures ∙ t) c.unstated-then-not-resolvable.ensures

pub made-requires : goal.made-requires
made-requires c = gives-own c.resolve_boolean.ensures

pub returns : goal.returns
returns c =
    let t : c.resolvable.result ≡ true = search (rules, not-true, not-false, (goal.at.returns c).Else-not-resolvable) in
    holds-derived (boolean c.args.i) (meaning c.args.upper) (meaning c.args.lower) c.resolve_boolean.ensures
    (sym c.resolvable.ensures ∙ t) c.made.ensures
