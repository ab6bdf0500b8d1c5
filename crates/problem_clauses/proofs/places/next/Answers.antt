-- `places::next` meets its contract: the sum is the clause's end, which is in the slice.
use mathlib.Core.Path.{◌≡◌, sym}
use Prim.Native.Nat.{◌+◌, ◌*◌}
use native.Mathlib.Omega.{arith}
use lib.ListN.{get_or}
use Rattle.rules_types.specs.Layout.{comparison_bytes}
use Rattle.problem_scan.specs.Values.{clause_end}
use Rattle.problem_clauses.specs.Walk.{clause_end-is, count-within}
use Rattle.problem_clauses.proofs.places.next.Goals as goal
use Rattle.problem_clauses.proofs.places.next.Goals.{After-count_place-place}

pub count_place-place-requires : goal.count_place-place-requires
count_place-place-requires c = count-within c.args.input.now c.args.r c.args.at c.requires

-- the end, by the place that the call gave
end_is : (c : After-count_place-place)
    → clause_end c.args.input.now c.args.r c.args.at
    ≡ c.count_place-place.result + 1 + get_or c.args.input.now c.count_place-place.result 0 * comparison_bytes c.args.r
end_is c = clause_end-is c.args.input.now c.args.r c.args.at c.count_place-place.result c.count_place-place.ensures

pub overflow_add-result : goal.overflow_add-result
overflow_add-result c = omega (arith, end_is c, c.requires, c.well_formed)

pub bounds-input-place : goal.bounds-input-place
bounds-input-place c = omega (arith, end_is (goal.at.bounds-input-place c).After-count_place-place, c.requires)

pub overflow_mul-result : goal.overflow_mul-result
overflow_mul-result c =
    rw c.comparison_bytes.ensures (omega (arith, end_is (goal.at.overflow_mul-result c).After-count_place-place, c.requires, c.well_formed))

pub overflow_add-result-2 : goal.overflow_add-result-2
overflow_add-result-2 c =
    rw c.comparison_bytes.ensures (omega (
      arith,
      end_is (goal.at.overflow_add-result-2 c).After-count_place-place,
      c.requires,
      c.well_formed,
    ))

pub returns : goal.returns
returns c = rw c.comparison_bytes.ensures (sym (end_is (goal.at.returns c).After-count_place-place))
