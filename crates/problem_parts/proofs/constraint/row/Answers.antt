use mathlib.Core.Path.{refl, ◌∙◌}
use Prim.Native.Nat.{◌+◌, ◌≤◌}
use native.Mathlib.Omega.{arith}
use borrow.Author.Rules.{sfits_of}
use mir.Syntax.{w64}
use mir.Val.{to_z, of_z}
use mir.Facts.{to_z-of_z}
use Rattle.problem_scan.specs.Values.{values_at, amount_at, behind}
use Rattle.problem_parts.specs.Constraint.{row_within, row_more, row_done}
use Rattle.problem_parts.proofs.constraint.row.Goals as goal
use Rattle.problem_parts.proofs.constraint.row.Goals.{In-loop-i}

pub loop-i-init : goal.loop-i-init
unfolding values_at
loop-i-init c = record { few = omega arith; place = omega arith; same = refl }

-- the coefficient is one of them
within : (c : In-loop-i) → let a = c.args in
    c.loop-i.at + 4 ≤ behind 4 a.count a.from
within c =
    let l = c.loop-i in
    let a = c.args in
    row_within a.input.now a.from a.count l.out l.at l.i l.invariant c.loop-i-test.true

pub amount_at-requires : goal.amount_at-requires
amount_at-requires c = omega (arith, within c, c.requires.from_in_bounds)

pub overflow_add-at : goal.overflow_add-at
overflow_add-at c = omega (arith, within (goal.at.overflow_add-at c).In-loop-i, c.requires.from_in_bounds, c.well_formed)

pub loop-i-preserved : goal.loop-i-preserved
unfolding amount_at
loop-i-preserved c =
    let l = c.loop-i in
    row_more c.args.input.now c.args.from c.args.count l.out l.at l.i l.invariant
    (to_z w64 (of_z w64 c.amount_at.result))
    c.loop-i-test.true c.requires.count_le_rationals
    (to_z-of_z {w = w64} (sfits_of c.amount_at.type_inv) ∙ c.amount_at.ensures)

pub returns : goal.returns
returns c =
    let l = c.loop-i in
    row_done c.args.input.now c.args.from c.args.count l.out l.at l.i l.invariant c.loop-i-test.false
