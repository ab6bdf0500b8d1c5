-- `constraint::written_bound` meets its contract. Assumes nothing.
use mathlib.Core.Path.{sym, ap, ◌∙◌}
use native.Mathlib.Omega.{arith}
use borrow.Author.Rules.{sfits_of}
use mir.Syntax.{w64}
use mir.Facts.{to_z-of_z}
use Prim.Native.Nat.{ℕ, ◌+◌}
use Rattle.rules.specs.Bytes.{from_unsigned, field_at}
use Rattle.problem_clauses.specs.Settled.{bound_at}
use Rattle.problem_clauses.proofs.constraint.written_bound.Goals as goal

pub overflow_add-at : goal.overflow_add-at
overflow_add-at c = omega (arith, c.comparison_bound.ensures, c.requires, c.well_formed)

pub amount_at-requires : goal.amount_at-requires
amount_at-requires c = omega (arith, c.comparison_bound.ensures, c.requires)

pub returns : goal.returns
returns c =
    let a = c.args in
    to_z-of_z {w = w64} (sfits_of c.amount_at.type_inv) ∙ c.amount_at.ensures
    ∙ ap (λ (i : ℕ). from_unsigned (field_at (a.at + i) 4 a.input.now)) c.comparison_bound.ensures
    ∙ sym (bound_at a.input.now a.r a.at)
