-- `constraint::bound_of` meets its contract: the bound as written, its sign turned where the comparison's are.
use mathlib.Core.Path.{◌≡◌, sym, ◌∙◌, subst}
use Prim.Native.Nat.{◌^◌, ◌<◌}
use borrow.Author.Rules.{sfits_of}
use mir.Syntax.{w64}
use mir.Val.{to_z, of_z}
use mir.Facts.{to_z-of_z}
use lib.IntN.{ℤ, nat_abs}
use Rattle.rules.specs.Readings.{signed, read_as}
use Rattle.problem_scan.specs.Values.{comparison_at}
use Rattle.problem_clauses.specs.Settled.{bound-size}
use Rattle.problem_clauses.proofs.constraint.bound_of.Goals as goal
use Rattle.problem_clauses.proofs.constraint.bound_of.Goals.{After-written_bound}

-- the bound as written
written_is : (c : After-written_bound) → let a = c.args in
    to_z w64 (of_z w64 c.written_bound.result) ≡ (comparison_at a.input.now a.r a.at).bound
written_is c = to_z-of_z {w = w64} (sfits_of c.written_bound.type_inv) ∙ c.written_bound.ensures

pub signed-requires : goal.signed-requires
signed-requires c =
    let a = c.args in
    subst (λ (z : ℤ). nat_abs z < 2 ^ 63) (sym (written_is c)) (bound-size a.input.now a.r a.at)

pub returns : goal.returns
unfolding read_as comparison_at
returns c =
    to_z-of_z {w = w64} (sfits_of c.signed.type_inv) ∙ c.signed.ensures
    ∙ (λ i. signed (c.turns.ensures i) (written_is (goal.at.returns c).After-written_bound i))
