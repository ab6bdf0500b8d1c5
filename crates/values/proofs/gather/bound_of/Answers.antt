-- `gather::bound_of` meets its contract. Assumes nothing.
use mathlib.Core.Path.{◌≡◌, ◌∙◌}
use borrow.Author.Rules.{rules, sfits_of}
use lib.IntN.{pos}
use lib.ListN.{length, get_or}
use mir.Syntax.{w64}
use mir.Val.{to_z, of_z}
use mir.Facts.{to_z-of_z}
use Rattle.rules_types.specs.Limits as limit
use Rattle.theory_bounds.specs.Meets.{rest}
use Rattle.rows.specs.Products.{amount-bits}
use Rattle.models.specs.Model.{value}
use Rattle.values.specs.Constraint.{rest-scaled, bound-is}
use Rattle.values.proofs.gather.bound_of.Goals as goal
use Rattle.values.proofs.gather.bound_of.Goals.{After-rest-n, Start}

row-length : (s : Start) → length s.args.line.coefficients ≡ limit.rationals
row-length s = search (rules, s.well_formed)

-- the operands, as numbers
divided : (c : After-rest-n) → to_z w64 (of_z w64 c.rest-n.result) ≡ rest c.args.f
    c.args.line.coefficients c.args.line.bound (value c.args.model.numerators) c.args.model.denominator
divided c = to_z-of_z {w = w64} (sfits_of c.rest-n.type_inv) ∙ c.rest-n.ensures

divisor : (s : Start)
    → to_z w64 (of_z w64 (get_or s.args.line.coefficients s.args.f (pos 0))) ≡ get_or s.args.line.coefficients s.args.f (pos 0)
divisor s = amount-bits (get_or s.args.line.coefficients s.args.f (pos 0)) (s.requires.ready.coefficients.small s.args.f)

pub quotient-requires : goal.quotient-requires
quotient-requires c =
    let e : c.from.result ≡ c.args.model.denominator = search rules in
    rw (divided (goal.at.quotient-requires c).After-rest-n, divisor (goal.at.quotient-requires c).Start, e)
    (rest-scaled c.args.line c.args.model c.args.f (row-length (goal.at.quotient-requires c).Start)
    c.requires.f_lt_rationals c.requires.ready c.requires.in_range c.requires.nonzero)

pub returns : goal.returns
returns c =
    let e : c.from.result ≡ c.args.model.denominator = search rules in
    (rw (divided (goal.at.returns c).After-rest-n, divisor (goal.at.returns c).Start, e) at c.quotient.ensures)
    ∙ bound-is c.args.line c.args.model c.args.f
    (row-length (goal.at.returns c).Start) c.requires.f_lt_rationals c.requires.ready c.requires.in_range
