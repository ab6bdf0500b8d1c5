-- `normalize::normalize` meets its contract. Assumes nothing.
use mathlib.Core.Path.{◌≡◌, sym, ap, ◌∙◌}
use mathlib.Core.Bool.{true, false}
use mathlib.Core.Option.{some}
use Prim.Native.Nat.{◌<◌}
use native.Mathlib.Omega.{arith}
use borrow.Author.Rules.{rules}
use borrow.Author.Tests.{not-true, not-false}
use lib.IntN.{pos}
use lib.Dec.{eqb}
use mir.Syntax.{w64}
use mir.Val.{SFits}
use mir.Facts.{to_z-of_z}
use Rattle.rules.specs.Lists.{all}
use Rattle.rules.specs.Arithmetic.{is_zero, related}
use Rattle.rules.specs.Lines.{meet}
use Rattle.lines.specs.Line.{meaning}
use Rattle.normalization.specs.Normal.{normalized, normal-clash, normal-plain, normal-reduced, normal-trivial, normal-struck}
use Rattle.normalization.proofs.normalize.normalize.Goals as goal
use Rattle.normalization.proofs.normalize.normalize.Goals.{After-trivial, Else-clashes, Else-not-zero_row, Else-relation-eq0}
use Rattle.normalization.proofs.normalize.normalize.Goals.{Then-not-zero_row}

pub returns-then-clashes : goal.returns-then-clashes
unfolding normalized
returns-then-clashes c = record {
  result_value = sym (normal-clash c.args.line (sym c.clashes.ensures ∙ c.if-clashes.true));
  shaped_2 = c.requires.shaped;
}

consistent : (c : Else-clashes)
    → meet (meaning c.args.line).positive (meaning c.args.line).negative ≡ false
consistent c = sym c.clashes.ensures ∙ c.if-clashes.false

pub returns-then-relation-eq0 : goal.returns-then-relation-eq0
unfolding normalized
returns-then-relation-eq0 c = record {
  result_value = sym (normal-plain c.args.line
      (consistent (goal.at.returns-then-relation-eq0 c).Else-clashes) c.if-relation-eq0.true);
  shaped_2 = c.requires.shaped;
}

some-relation : (c : Else-relation-eq0) → 0 < c.args.line.relation
some-relation c = omega (arith, c.if-relation-eq0.false)

nonzero : (c : Then-not-zero_row) → all is_zero c.args.line.coefficients ≡ false
nonzero c = let t : c.zero_row.result ≡ false = search (rules, not-true, not-false) in sym c.zero_row.ensures ∙ t

pub reduce-requires : goal.reduce-requires
reduce-requires c = record { shaped = c.requires.shaped; coefficients_value = nonzero c; bounded = c.requires.bounded }

pub returns-then-not-zero_row : goal.returns-then-not-zero_row
unfolding normalized
returns-then-not-zero_row c = record {
  result_value = ap some c.reduce.ensures.result_value
      ∙ sym (normal-reduced c.args.line (consistent (goal.at.returns-then-not-zero_row c).Else-clashes)
      (some-relation (goal.at.returns-then-not-zero_row c).Else-relation-eq0)
      (nonzero (goal.at.returns-then-not-zero_row c).Then-not-zero_row));
  shaped_2 = c.reduce.ensures.shaped_2;
}

zeros : (c : Else-not-zero_row) → all is_zero c.args.line.coefficients ≡ true
zeros c = let t : c.zero_row.result ≡ true = search (rules, not-true, not-false) in sym c.zero_row.ensures ∙ t

-- what the test of the bound says
bound-test : (c : After-trivial) → let l = c.args.line in
    c.trivial.result ≡ related (eqb l.relation 2) (pos 0) l.bound
bound-test c =
    let f : SFits w64 c.args.line.bound = search (rules, c.well_formed) in
    rw (to_z-of_z f) at c.trivial.ensures

pub returns-then-trivial : goal.returns-then-trivial
unfolding normalized
returns-then-trivial c = record {
  result_value = sym (normal-trivial c.args.line (consistent (goal.at.returns-then-trivial c).Else-clashes)
      (some-relation (goal.at.returns-then-trivial c).Else-relation-eq0) (zeros (goal.at.returns-then-trivial c).Else-not-zero_row)
      (sym (bound-test (goal.at.returns-then-trivial c).After-trivial) ∙ c.if-trivial.true));
  shaped_2 = c.requires.shaped;
}

pub returns : goal.returns
unfolding normalized
returns c = record {
  result_value = ap some c.unconstrained.ensures.result_value ∙ sym
      (normal-struck c.args.line (consistent (goal.at.returns c).Else-clashes) (some-relation (goal.at.returns c).Else-relation-eq0)
      (zeros (goal.at.returns c).Else-not-zero_row)
      (sym (bound-test (goal.at.returns c).After-trivial) ∙ c.if-trivial.false));
  shaped_2 = c.unconstrained.ensures.shaped;
}
