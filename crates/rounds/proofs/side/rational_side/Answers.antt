-- `side::rational_side` meets its contract. Assumes nothing.
use mathlib.Core.Path.{◌≡◌, ◌∙◌}
use Prim.Native.Nat.{◌+◌, ◌*◌}
use mir.Syntax.{w64}
use mir.Val.{SFits}
use mir.Facts.{to_z-of_z}
use Rattle.rules_types.specs.Limits.{step_bytes}
use Rattle.rules_types.specs.Layout.{step_coefficients}
use Rattle.rules.specs.Bytes.{from_unsigned, field_at}
use Rattle.rules.specs.Lines.{coefficient, positively, negatively}
use Rattle.lines.specs.Line.{meaning}
use Rattle.steps.specs.Lines.{line_at}
use Rattle.rounds.specs.Sides.{on_side, coefficient-side}
use borrow.Author.Rules.{rules}
use Rattle.rounds.proofs.side.rational_side.Goals as goal
use Rattle.rounds.proofs.side.rational_side.Goals.{After-coefficient_at-z}

-- the bytes are those of the line's coefficient
is : (k : After-coefficient_at-z) → let a = k.args in
    from_unsigned (field_at (step_bytes * a.i + (step_coefficients + 4 * a.f)) 4 a.proof.now)
    ≡ coefficient a.f (meaning (line_at a.proof.now a.i)).constraint
is k =
    coefficient-side k.args.proof.now k.args.i k.requires.has_step k.requires.shaped k.args.f k.requires.f_lt_rationals

pub returns-then-upper : goal.returns-then-upper
unfolding on_side positively
returns-then-upper c =
    let f : SFits w64 c.coefficient_at-z.result = search (rules, (goal.at.returns-then-upper c).After-coefficient_at-z) in
    rw (to_z-of_z f) at c.is_positive.ensures ∙ rw (
      c.coefficient_at-z.ensures
          ∙ is (goal.at.returns-then-upper c).After-coefficient_at-z,
      c.if-upper.true,
    )

pub returns : goal.returns
unfolding on_side negatively
returns c =
    let f : SFits w64 c.coefficient_at-z.result = search (rules, (goal.at.returns c).After-coefficient_at-z) in
    rw (to_z-of_z f) at c.is_negative.ensures ∙ rw (
      c.coefficient_at-z.ensures
          ∙ is (goal.at.returns c).After-coefficient_at-z,
      c.if-upper.false,
    )
