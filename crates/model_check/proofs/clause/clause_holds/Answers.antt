-- `clause::clause_holds` meets its contract. Assumes nothing.
use mathlib.Core.Path.{sym, ◌∙◌}
use Prim.Native.Nat.{◌+◌, ◌<◌}
use native.Mathlib.Omega.{arith}
use lib.ListN.{length}
use Rattle.rules.specs.Meaning.{clause_holds}
use Rattle.problem_scan.specs.Values.{count_of, clause_at, clause_end}
use Rattle.problem_clauses.specs.Walk.{count-within, clause-within}
use Rattle.model_check.proofs.clause.clause_holds.Goals as goal
use Rattle.model_check.proofs.clause.clause_holds.Goals.{Start}

-- the count of comparisons and the byte behind the first are in the slice
counted : (s : Start) → count_of s.args.input.now s.args.at < length s.args.input.now
counted s = count-within s.args.input.now s.args.r s.args.at s.requires.sound_clause.within

within : (s : Start) → s.args.at + 1 < length s.args.input.now
within s = clause-within s.args.input.now s.args.r s.args.at s.requires.sound_clause.within

pub count_place-place-requires : goal.count_place-place-requires
count_place-place-requires c = counted (goal.at.count_place-place-requires c).Start

pub overflow_add-at : goal.overflow_add-at
overflow_add-at c = omega (arith, within (goal.at.overflow_add-at c).Start, c.well_formed)

pub bounds-input-at : goal.bounds-input-at
bounds-input-at c = omega (arith, within (goal.at.bounds-input-at c).Start)

pub any_literal-requires : goal.any_literal-requires
unfolding count_of
any_literal-requires c = omega (arith, counted (goal.at.any_literal-requires c).Start)

pub returns-then-any_literal : goal.returns-then-any_literal
unfolding clause_holds clause_at
returns-then-any_literal c = c.if-any_literal.true ∙ sym (rw (sym c.any_literal.ensures ∙ c.if-any_literal.true))

pub overflow_add-place : goal.overflow_add-place
overflow_add-place c = omega (arith, c.count_place-place.ensures, counted (goal.at.overflow_add-place c).Start, c.well_formed)

pub bounds-input-place : goal.bounds-input-place
bounds-input-place c = omega (arith, c.count_place-place.ensures, counted (goal.at.bounds-input-place c).Start)

pub any_comparison-requires-clause-from_in_bounds : goal.any_comparison-requires-clause-from_in_bounds
unfolding clause_end
any_comparison-requires-clause-from_in_bounds c = rw c.count_place-place.ensures c.requires.sound_clause.within

pub returns-else-any_literal : goal.returns-else-any_literal
unfolding clause_holds clause_at
returns-else-any_literal c =
    rw (sym c.any_literal.ensures ∙ c.if-any_literal.false, ← c.count_place-place.ensures)
    c.any_comparison.ensures
