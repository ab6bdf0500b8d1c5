-- `splits::settled` meets its contract: a law for each return.
use mathlib.Core.Path.{◌≡◌, sym, ◌∙◌}
use mathlib.Core.Bool.{true}
use native.Mathlib.Omega.{arith}
use mir.Syntax.{w64}
use mir.Facts.{to_z-of_z}
use lib.IntN.{pos}
use lib.ListN.{get_or}
use Prim.Native.Nat.{◌+◌}
use Rattle.rules_types.specs.Layout as layout
use Rattle.rules.specs.Lists.{all}
use Rattle.rules.specs.Arithmetic.{is_zero, related}
use Rattle.rules.specs.Problem.{relation_of}
use Rattle.rules.specs.Readings.{is_strict}
use Rattle.problem_scan.specs.Values.{values_at, amount_at, constraint_at, behind-is}
use Rattle.problem_clauses.specs.Settled.{fate-kept, fate-always, fate-never}
use borrow.Author.Rules.{sfits_of}
use Rattle.problem_clauses.proofs.splits.settled.Goals as goal
use Rattle.problem_clauses.proofs.splits.settled.Goals.{After-zero_related, Else-not-zeros}

pub zeros-requires : goal.zeros-requires
zeros-requires c = omega (arith, behind-is 4 c.args.r (c.args.at + layout.comparison_coefficients))

pub returns-then-not-zeros : goal.returns-then-not-zeros
returns-then-not-zeros c = sym (fate-kept c.args.input.now c.args.second c.args.r c.args.at
    (sym c.zeros.ensures ∙ c.if-not-zeros.true))

zeros-hold : (c : Else-not-zeros) → all is_zero (values_at (amount_at c.args.input.now) 4 c.args.r
    (c.args.at + layout.comparison_coefficients)) ≡ true
zeros-hold c = sym c.zeros.ensures ∙ c.if-not-zeros.false

-- the test is the definition's
test-is : (c : After-zero_related) → c.zero_related.result
    ≡ related (is_strict (relation_of (get_or c.args.input.now c.args.at 0))) (pos 0)
    (constraint_at c.args.input.now c.args.second c.args.r c.args.at).bound
test-is c =
    let bound = to_z-of_z {w = w64} (sfits_of c.bound_of.type_inv) ∙ c.bound_of.ensures in
    c.zero_related.ensures ∙ (λ i. related (c.is_strict.ensures i) (pos 0) (bound i))

pub returns-then-zero_related : goal.returns-then-zero_related
returns-then-zero_related c =
    sym (fate-always c.args.input.now c.args.second c.args.r c.args.at
    (zeros-hold (goal.at.returns-then-zero_related c).Else-not-zeros) c.zero_related.result
    (test-is (goal.at.returns-then-zero_related c).After-zero_related) c.if-zero_related.true)

pub returns : goal.returns
returns c =
    sym (fate-never c.args.input.now c.args.second c.args.r c.args.at (zeros-hold (goal.at.returns c).Else-not-zeros) c.zero_related.result
    (test-is (goal.at.returns c).After-zero_related) c.if-zero_related.false)
