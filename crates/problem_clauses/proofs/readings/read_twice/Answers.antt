-- `readings::read_twice` meets its contract.
use mathlib.Core.Path.{ap, ◌∙◌}
use Prim.Native.Nat.{ℕ, ◌+◌, ◌<◌}
use native.Mathlib.Omega.{arith}
use lib.ListN.{length, get_or}
use Rattle.rules.specs.Readings.{has_equality}
use Rattle.problem_scan.specs.Values.{comparisons_at, clause_at}
use Rattle.problem_clauses.specs.Walk.{count-within, constraints-within}
use Rattle.problem_clauses.proofs.readings.read_twice.Goals as goal
use Rattle.problem_clauses.proofs.readings.read_twice.Goals.{After-count_place-place}

pub count_place-place-requires : goal.count_place-place-requires
count_place-place-requires c = count-within c.args.input.now c.args.r c.args.at c.requires

place-within : (c : After-count_place-place) → c.count_place-place.result < length c.args.input.now
place-within c = omega (arith, count-within c.args.input.now c.args.r c.args.at c.requires, c.count_place-place.ensures)

pub overflow_add-place : goal.overflow_add-place
overflow_add-place c = omega (arith, place-within c, c.well_formed)

pub bounds-input-place : goal.bounds-input-place
bounds-input-place c = place-within (goal.at.bounds-input-place c).After-count_place-place

pub has_equality-requires : goal.has_equality-requires
has_equality-requires c =
    constraints-within c.args.input.now c.args.r c.args.at c.requires c.count_place-place.result c.count_place-place.ensures

pub returns : goal.returns
unfolding clause_at
returns c =
    let a = c.args in
    c.has_equality.ensures
    ∙ ap (λ (place : ℕ). has_equality (comparisons_at a.input.now a.r (get_or a.input.now place 0) (place + 1)))
    c.count_place-place.ensures
