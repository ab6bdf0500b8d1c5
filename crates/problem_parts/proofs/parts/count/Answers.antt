-- `parts::count` meets its contract.
use mathlib.Core.Path.{◌≡◌, sym, ap}
use mathlib.Core.Bool.{Bool, true, false, cond}
use Prim.Native.Nat.{max}
use native.Mathlib.Omega.{arith}
use borrow.Author.Tests.{not-true, not-false}
use Rattle.problem_parts.specs.Parts.{parts_left}
use Rattle.problem_parts.proofs.parts.count.Goals as goal
use Rattle.problem_parts.proofs.parts.count.Goals.{Start}

-- by whether a part is left
left_by : (c : Start) (t : Bool) → c.args.parts.more ≡ t → parts_left c.args.parts ≡ cond t (max 1 c.args.parts.stay) 0
unfolding parts_left
left_by c t e = ap (λ (m : Bool). cond m (max 1 c.args.parts.stay) 0) e

pub returns-then-not-parts : goal.returns-then-not-parts
returns-then-not-parts c = sym (left_by (goal.at.returns-then-not-parts c).Start false (not-true _ c.if-not-parts.true))

pub returns-then-parts-eq0 : goal.returns-then-parts-eq0
returns-then-parts-eq0 c = omega (
  arith,
  left_by (goal.at.returns-then-parts-eq0 c).Start true (not-false _ c.if-not-parts.false),
  c.if-parts-eq0.true,
)

pub returns : goal.returns
returns c = omega (arith, left_by (goal.at.returns c).Start true (not-false _ c.if-not-parts.false), c.if-parts-eq0.false)
