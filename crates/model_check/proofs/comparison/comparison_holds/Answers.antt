-- `comparison::comparison_holds` meets its contract. Assumes nothing.
use mathlib.Core.Path.{◌≡◌, ◌∙◌}
use Prim.Native.Nat.{◌+◌}
use native.Mathlib.Omega.{arith}
use borrow.Author.Rules.{sfits_of}
use mir.Syntax.{w64}
use mir.Val.{to_z, of_z}
use mir.Facts.{to_z-of_z}
use Rattle.rules_types.specs.Layout as layout
use Rattle.problem_scan.specs.Values.{behind-is, comparison_at}
use Rattle.model_check.specs.Sum.{holds-is}
use Rattle.model_check.proofs.comparison.comparison_holds.Goals as goal
use Rattle.model_check.proofs.comparison.comparison_holds.Goals.{After-written_bound}

pub sum-s-requires-clause-from_in_bounds : goal.sum-s-requires-clause-from_in_bounds
sum-s-requires-clause-from_in_bounds c =
    omega (arith, behind-is 4 c.args.r (c.args.at + layout.comparison_coefficients), c.requires.sound_comparison.within)

-- the bound that was read
read_is : (c : After-written_bound) → let a = c.args in
    to_z w64 (of_z w64 c.written_bound.result) ≡ (comparison_at a.input.now a.r a.at).bound
read_is c = to_z-of_z {w = w64} (sfits_of c.written_bound.type_inv) ∙ c.written_bound.ensures

pub scaled-b-requires : goal.scaled-b-requires
unfolding comparison_at
scaled-b-requires c = rw (read_is c) c.requires.sound_comparison.bound

pub returns : goal.returns
returns c =
    c.compared.ensures
    ∙ holds-is c.args.input.now c.args.r c.args.at c.args.model (to_z w64 (of_z w64 c.sum-s.result))
    (to_z w64 (of_z w64 c.written_bound.result)) (to_z w64 (of_z w64 c.scaled-b.result))
    (to_z-of_z {w = w64} (sfits_of c.sum-s.type_inv) ∙ c.sum-s.ensures) (read_is (goal.at.returns c).After-written_bound)
    (to_z-of_z {w = w64} (sfits_of c.scaled-b.type_inv) ∙ c.scaled-b.ensures)
