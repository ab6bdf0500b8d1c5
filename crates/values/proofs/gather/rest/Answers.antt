-- `gather::rest` meets its contract: bound and seven other terms are at most 8 × 10^18. Assumes nothing.
use mathlib.Core.Path.{◌≡◌}
use native.Mathlib.Omega.{arith}
use borrow.Author.Rules.{rules, sfits_of}
use lib.IntN.{◌-ℤ◌}
use lib.ListN.{length}
use mir.Syntax.{w64}
use mir.Val.{SFits, to_z, of_z}
use mir.Facts.{to_z-of_z}
use Rattle.rules_types.specs.Limits as limit
use Rattle.machine.specs.Signed.{fits-size}
use Rattle.theory_bounds.specs.Meets.{rest}
use Rattle.rows.specs.Products.{amount-bits}
use Rattle.models.specs.Model.{value}
use Rattle.values.specs.Constraint.{rest-≤}
use Rattle.values.proofs.gather.rest.Goals as goal
use Rattle.values.proofs.gather.rest.Goals.{After-sum, Start}

row-length : (s : Start) → length s.args.line.coefficients ≡ limit.rationals
row-length s = search (rules, s.well_formed)

fits : (s : Start) → SFits w64 (rest s.args.f s.args.line.coefficients s.args.line.bound
    (value s.args.model.numerators) s.args.model.denominator)
fits s =
    let l = s.args.line in
    let m = s.args.model in
    fits-size (rest s.args.f l.coefficients l.bound (value m.numerators) m.denominator)
    (omega (arith, rest-≤ l m s.args.f (row-length s) s.requires.f_lt_rationals s.requires.ready s.requires.in_range))

computed : (c : After-sum) → to_z w64 (of_z w64 c.scaled.result) -ℤ to_z w64
    (of_z w64 c.sum.result) ≡ rest c.args.f c.args.line.coefficients
    c.args.line.bound (value c.args.model.numerators) c.args.model.denominator
computed c =
    let b = rw (amount-bits c.args.line.bound c.requires.ready.bound) at c.scaled.ensures in
    rw (to_z-of_z {w = w64} (sfits_of c.scaled.type_inv), to_z-of_z {w = w64} (sfits_of c.sum.type_inv), b, c.sum.ensures)

pub overflow_sub-result : goal.overflow_sub-result
overflow_sub-result c = rw (computed c) (fits (goal.at.overflow_sub-result c).Start)

pub returns : goal.returns
returns c = rw (computed c) (to_z-of_z (fits (goal.at.returns c).Start))
