-- `numbers::amount` meets its contract: a law for each return.
use mathlib.Core.Path.{◌≡◌, sym, ap, ◌∙◌}
use native.Mathlib.Omega.{arith}
use borrow.Author.Rules.{sfits_of}
use mir.Syntax.{w64}
use mir.Facts.{to_z-of_z}
use Rattle.rules.specs.Bytes.{from_unsigned, field_at}
use Rattle.rules.specs.Problem.{in_range}
use Rattle.problem_scan.specs.Comparisons.{amount-short, amount-bad, amount-good}
use Rattle.problem_scan.proofs.numbers.amount.Goals as goal
use Rattle.problem_scan.proofs.numbers.amount.Goals.{After-in_range}

-- the test that was called is the definition's
tested-is : (c : After-in_range) → in_range (from_unsigned (field_at c.args.at 4 c.args.input.now)) ≡ c.in_range.result
tested-is c = let a = c.amount_at in sym (c.in_range.ensures ∙ ap in_range (to_z-of_z {w = w64} (sfits_of a.type_inv) ∙ a.ensures))

pub returns-then-input-at-lt4 : goal.returns-then-input-at-lt4
returns-then-input-at-lt4 c = sym (amount-short c.args.input.now c.args.at c.requires (omega arith))

pub returns-then-in_range : goal.returns-then-in_range
returns-then-in_range c =
    sym (amount-good c.args.input.now c.args.at (omega arith) (tested-is (goal.at.returns-then-in_range c).After-in_range
    ∙ c.if-in_range.true))

pub returns : goal.returns
returns c =
    sym (amount-bad c.args.input.now c.args.at (omega arith) (tested-is (goal.at.returns c).After-in_range ∙ c.if-in_range.false))
