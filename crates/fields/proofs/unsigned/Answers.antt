-- `fields::unsigned` meets its contract. Assumes nothing.
use mathlib.Core.Path.{◌≡◌, sym, ◌∙◌}
use native.Mathlib.Omega.{arith}
use lib.IntN.{nat_abs}
use mir.Facts.{to_z-of_z}
use Rattle.fields.specs.Field.{to_unsigned-positive, to_unsigned-negative}
use borrow.Author.Rules.{rules}
use Rattle.fields.proofs.unsigned.Goals as goal
use Rattle.fields.proofs.unsigned.Goals.{After-size-n}

size_is : (c : After-size-n) → c.size-n.result ≡ nat_abs c.args.z
size_is c = rw (to_z-of_z c.ranges.z) at c.size-n.ensures

pub overflow_sub-result : goal.overflow_sub-result
overflow_sub-result c = omega (arith, size_is (goal.at.overflow_sub-result c).After-size-n)

pub returns-then-z-lt0 : goal.returns-then-z-lt0
returns-then-z-lt0 c =
    let e = to_z-of_z c.ranges.z in
    omega (arith, size_is (goal.at.returns-then-z-lt0 c).After-size-n, to_unsigned-negative c.args.z (rw e at c.if-z-lt0.true))

pub returns : goal.returns
returns c =
    let e = to_z-of_z c.ranges.z in
    size_is (goal.at.returns c).After-size-n ∙ sym (to_unsigned-positive c.args.z (rw e at c.if-z-lt0.false))
