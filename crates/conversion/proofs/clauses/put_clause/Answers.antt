-- `clauses::put_clause` meets its contract: what is copied is stored, then the comparisons. Assumes nothing.
use Prim.Native.Nat.{◌<◌}
use native.Mathlib.Omega.{arith}
use lib.ListN.{length}
use Rattle.problem_clauses.specs.Walk.{count_of-is, count-within, constraints-within}
use Rattle.conversion.specs.Clauses.{head-fits, place-fits, rest-fits, wrote-clause}
use Rattle.conversion.proofs.clauses.put_clause.Goals as goal
use Rattle.conversion.proofs.clauses.put_clause.Goals.{After-count_place-place}

pub count_place-place-requires : goal.count_place-place-requires
count_place-place-requires c =
    count-within c.args.input.now c.args.r c.args.at c.requires.at_in_bounds

-- the count of comparisons is in the slice, behind the clause's first byte
inside-place : (c : After-count_place-place) → (c.count_place-place.result < length c.args.input.now)
    × (c.args.at < c.count_place-place.result)
inside-place c = (
  omega (arith, c.count_place-place.ensures, count-within c.args.input.now c.args.r c.args.at c.requires.at_in_bounds),
  omega (arith, c.count_place-place.ensures, count_of-is c.args.input.now c.args.at),
)

pub overflow_add-from : goal.overflow_add-from
overflow_add-from c = omega (arith, (inside-place c).0, c.well_formed)

pub slice_bounds-put_bytes-count : goal.slice_bounds-put_bytes-count
slice_bounds-put_bytes-count c = omega (
  arith,
  (inside-place (goal.at.slice_bounds-put_bytes-count c).After-count_place-place).0,
  (inside-place (goal.at.slice_bounds-put_bytes-count c).After-count_place-place).1,
)

pub slice_bounds-put_bytes-start : goal.slice_bounds-put_bytes-start
slice_bounds-put_bytes-start c = omega (arith, (inside-place (goal.at.slice_bounds-put_bytes-start c).After-count_place-place).1)

pub slice_bounds-put_bytes-end : goal.slice_bounds-put_bytes-end
slice_bounds-put_bytes-end c = omega (arith, (inside-place (goal.at.slice_bounds-put_bytes-end c).After-count_place-place).0)

pub put_bytes-requires : goal.put_bytes-requires
put_bytes-requires c =
    head-fits _ _ _ c.args.out.now _ _ c.requires.at_in_bounds_2 c.requires.at_in_bounds _ c.count_place-place.ensures

pub overflow_sub-from : goal.overflow_sub-from
overflow_sub-from c = omega (arith, (inside-place (goal.at.overflow_sub-from c).After-count_place-place).1)

pub overflow_add-to : goal.overflow_add-to
overflow_add-to c =
    omega (
      arith,
      place-fits _ _ _ c.args.out.now _ _ c.requires.at_in_bounds_2 c.requires.at_in_bounds _ c.count_place-place.ensures,
      c.well_formed,
    )

pub bounds-input-place : goal.bounds-input-place
bounds-input-place c = omega (arith, (inside-place (goal.at.bounds-input-place c).After-count_place-place).0)

pub put_comparisons-requires : goal.put_comparisons-requires
put_comparisons-requires c = record {
  r_le_rationals = c.requires.r_le_rationals;
  from_in_bounds = constraints-within c.args.input.now c.args.r c.args.at c.requires.at_in_bounds _ c.count_place-place.ensures;
  from_in_bounds_2 =
      rest-fits _ _ _ c.args.out.now _ _ c.requires.at_in_bounds_2 c.requires.at_in_bounds _ c.count_place-place.ensures
      c.put_bytes.ensures;
}

pub returns : goal.returns
returns c =
    wrote-clause _ _ _ c.args.out.now _ _ c.requires.at_in_bounds_2 c.requires.at_in_bounds _ c.count_place-place.ensures
    c.put_bytes.ensures
    c.put_comparisons.ensures
