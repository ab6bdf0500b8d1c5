-- `kept::kept_by` meets its contract: a law for each return. Assumes nothing.
use native.Mathlib.Omega.{arith}
use Prim.Native.Nat.{◌+◌, ◌≤◌}
use lib.ListN.{length}
use Rattle.rules_types.specs.Layout.{comparison_bytes}
use Rattle.problem_clauses.specs.Walk.{count-within, clause-within, clause_end-is}
use Rattle.kept_rationals.specs.Clause.{with-literals, not-one, one-alone}
use Rattle.kept_rationals.proofs.kept.kept_by.Goals as goal
use Rattle.kept_rationals.proofs.kept.kept_by.Goals.{Else-input-place-ne1}

pub bounds-input-at : goal.bounds-input-at
bounds-input-at c =
    omega (arith, clause-within c.args.input.now c.args.r c.args.at c.requires)

pub returns-then-input-at-ne0 : goal.returns-then-input-at-ne0
returns-then-input-at-ne0 c = with-literals _ _ _ c.if-input-at-ne0.true

pub count_place-place-requires : goal.count_place-place-requires
count_place-place-requires c =
    count-within c.args.input.now c.args.r c.args.at c.requires

pub bounds-input-place : goal.bounds-input-place
bounds-input-place c =
    omega (arith, c.count_place-place.ensures, count-within c.args.input.now c.args.r c.args.at c.requires)

pub returns-then-input-place-ne1 : goal.returns-then-input-place-ne1
returns-then-input-place-ne1 c =
    not-one _ _ _ c.if-input-at-ne0.false _ c.count_place-place.ensures c.if-input-place-ne1.true

-- the one comparison ends in the slice
within : (c : Else-input-place-ne1) → c.count_place-place.result + 1 + comparison_bytes c.args.r ≤ length c.args.input.now
within c =
    omega (
      arith,
      rw c.if-input-place-ne1.false at (clause_end-is c.args.input.now c.args.r c.args.at _ c.count_place-place.ensures),
      c.requires,
    )

pub overflow_add-place : goal.overflow_add-place
overflow_add-place c = omega (arith, within c, c.well_formed)

pub bounded_by-requires : goal.bounded_by-requires
bounded_by-requires c = within c

pub returns : goal.returns
returns c =
    one-alone _ _ _ c.if-input-at-ne0.false _ c.count_place-place.ensures c.if-input-place-ne1.false _ c.bounded_by.ensures
