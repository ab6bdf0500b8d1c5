-- `walk::count_place` meets its contract. Assumes nothing.
use mathlib.Core.Path.{sym}
use native.Mathlib.Omega.{arith}
use Rattle.problem_clauses.specs.Walk.{count_of-is}
use Rattle.problem_clauses.proofs.places.count_place.Goals as goal

pub overflow_add-result : goal.overflow_add-result
overflow_add-result c = omega (arith, count_of-is c.args.input.now c.args.at, c.requires, c.well_formed)

pub bounds-input-at : goal.bounds-input-at
bounds-input-at c = omega (arith, count_of-is c.args.input.now c.args.at, c.requires)

pub overflow_add-result-2 : goal.overflow_add-result-2
overflow_add-result-2 c = omega (arith, count_of-is c.args.input.now c.args.at, c.requires, c.well_formed)

pub returns : goal.returns
returns c = sym (count_of-is c.args.input.now c.args.at)
