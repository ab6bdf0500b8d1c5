-- `derive::by_rational` meets its contract. Assumes nothing.
use mathlib.Core.Path.{◌≡◌, sym, ◌∙◌}
use mathlib.Core.Bool.{true, false}
use borrow.Author.Tests.{not-true, not-false}
use native.Mathlib.Omega.{arith}
use lib.ListN.{length}
use Rattle.rules_types.specs.Limits as limit
use Rattle.rules.specs.Lines.{rational, positively, negatively}
use Rattle.rules.specs.Checker.{pairable}
use Rattle.lines.specs.Line.{meaning}
use Rattle.step_check.specs.Derived.{suited, suited-upper, suited-lower, suited-pair}
use Rattle.step_check.specs.Made.{holds-derived, holds-no, gives-own, rational-beyond}
use borrow.Author.Rules.{rules}
use Rattle.step_check.proofs.derive.by_rational.Goals as goal
use Rattle.step_check.proofs.derive.by_rational.Goals.{Else-not-has_negative_rational, Else-not-has_positive_rational, Start}
use Rattle.step_check.proofs.derive.by_rational.Goals.{Then-not-has_negative_rational, Then-not-has_positive_rational}

eight : (s : Start) → length s.args.upper.coefficients ≡ limit.rationals
eight s = search (rules, s.well_formed)

-- without the variable in the upper line there is no resolvent
unbounded : (s : Start) → positively (rational s.args.f) (meaning s.args.upper) ≡ false
    → suited (rational s.args.f) (meaning s.args.upper) (meaning s.args.lower) ≡ false
unbounded s e = suited-upper (rational s.args.f) (meaning s.args.upper) (meaning s.args.lower) e

pub returns-then-f-ge-RATIONALS : goal.returns-then-f-ge-RATIONALS
returns-then-f-ge-RATIONALS c =
    holds-no (rational c.args.f) (meaning c.args.upper) (meaning c.args.lower)
    (unbounded (goal.at.returns-then-f-ge-RATIONALS c).Start (rational-beyond c.args.f c.args.upper c.requires.ready
    (eight (goal.at.returns-then-f-ge-RATIONALS c).Start) c.if-f-ge-RATIONALS.true)) c.unstated.ensures

pub returns-then-not-has_positive_rational : goal.returns-then-not-has_positive_rational
returns-then-not-has_positive_rational c =
    let t : c.has_positive_rational.result ≡ false = search (
      rules,
      not-true,
      not-false,
      (goal.at.returns-then-not-has_positive_rational c).Then-not-has_positive_rational,
    ) in
    holds-no (rational c.args.f) (meaning c.args.upper) (meaning c.args.lower)
    (unbounded (goal.at.returns-then-not-has_positive_rational c).Start
    (sym c.has_positive_rational.ensures ∙ t)) c.unstated-then-not-has_positive_rational.ensures

upper-yes : (c : Else-not-has_positive_rational) → positively (rational c.args.f) (meaning c.args.upper) ≡ true
upper-yes c = let t : c.has_positive_rational.result ≡ true = search (rules, not-true, not-false, c.if-not-has_positive_rational) in
    sym c.has_positive_rational.ensures ∙ t

lower-yes : (c : Else-not-has_negative_rational) → negatively (rational c.args.f) (meaning c.args.lower) ≡ true
lower-yes c = let t : c.has_negative_rational.result ≡ true = search (rules, not-true, not-false, c.if-not-has_negative_rational) in
    sym c.has_negative_rational.ensures ∙ t

pub returns-then-not-has_negative_rational : goal.returns-then-not-has_negative_rational
returns-then-not-has_negative_rational c =
    let v = rational c.args.f in
    let u = meaning c.args.upper in
    let t : c.has_negative_rational.result ≡ false = search (
      rules,
      not-true,
      not-false,
      (goal.at.returns-then-not-has_negative_rational c).Then-not-has_negative_rational,
    ) in
    holds-no v u (meaning c.args.lower) (suited-lower v u (meaning c.args.lower)
    (upper-yes (goal.at.returns-then-not-has_negative_rational c).Else-not-has_positive_rational)
    (sym c.has_negative_rational.ensures ∙ t)) c.unstated-then-not-has_negative_rational.ensures

pub resolve_rational-requires : goal.resolve_rational-requires
resolve_rational-requires c = record {
  f_lt_rationals = omega (arith, c.if-f-ge-RATIONALS.false);
  ready = c.requires.ready;
  ready_2 = c.requires.ready_2;
  upper_value = upper-yes (goal.at.resolve_rational-requires c).Else-not-has_positive_rational;
  lower_value = lower-yes c;
}

pub made-requires : goal.made-requires
made-requires c = gives-own c.resolve_rational.ensures

pub returns : goal.returns
unfolding pairable
returns c =
    let v = rational c.args.f in
    let u = meaning c.args.upper in
    let l = meaning c.args.lower in
    holds-derived v u l c.resolve_rational.ensures (suited-pair v u l (upper-yes (goal.at.returns c).Else-not-has_positive_rational)
    (lower-yes (goal.at.returns c).Else-not-has_negative_rational)) c.made.ensures
