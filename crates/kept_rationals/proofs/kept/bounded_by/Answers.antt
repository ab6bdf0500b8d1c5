-- `kept::bounded_by` meets its contract: a law for each return. Assumes nothing.
use mathlib.Core.Path.{sym, ◌∙◌}
use native.Mathlib.Omega.{arith}
use Prim.Native.Nat.{◌+◌}
use Rattle.problem_scan.specs.Values.{behind-is}
use Rattle.kept_rationals.specs.Clause.{not-upper, above_zero, bounds-alone}
use Rattle.kept_rationals.proofs.kept.bounded_by.Goals as goal

pub returns-then-not-is_upper : goal.returns-then-not-is_upper
returns-then-not-is_upper c = not-upper _ _ _ (sym c.is_upper.ensures ∙ c.if-not-is_upper.true)

pub returns-then-not-at_most_zero : goal.returns-then-not-at_most_zero
returns-then-not-at_most_zero c =
    above_zero _ _ _ (sym c.is_upper.ensures ∙ c.if-not-is_upper.false) _ _ c.u32_at.ensures
    (omega (arith, c.comparison_bound.ensures)) (sym c.at_most_zero.ensures ∙ c.if-not-at_most_zero.true)

pub alone-requires : goal.alone-requires
alone-requires c =
    omega (arith, behind-is 4 c.args.r (c.args.at + 1), c.requires)

pub returns : goal.returns
returns c =
    bounds-alone _ _ _ (sym c.is_upper.ensures ∙ c.if-not-is_upper.false) _ _ c.u32_at.ensures
    (omega (arith, c.comparison_bound.ensures)) (sym c.at_most_zero.ensures ∙ c.if-not-at_most_zero.false) _
    c.alone.ensures
