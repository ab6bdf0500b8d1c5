-- `constraint::turned_line` meets its contract.
use mathlib.Core.Path.{◌≡◌, sym, ap, ◌∙◌, subst}
use mathlib.Core.Bool.{true}
use Prim.Native.Nat.{◌^◌, ◌<◌}
use native.Mathlib.Omega.{arith}
use borrow.Author.Rules.{rules, sfits_of}
use lib.IntN.{ℤ, nat_abs}
use mir.Syntax.{w64}
use mir.Val.{SFits, to_z, of_z}
use mir.Facts.{to_z-of_z}
use Rattle.rules.specs.Readings.{signed}
use Rattle.problem_parts.proofs.constraint.turned_line.Goals as goal

-- the bound
bound-fits : (z : ℤ) → SFits w64 z → to_z w64 (of_z w64 z) ≡ z
bound-fits z f = to_z-of_z f

pub signed-requires : goal.signed-requires
signed-requires c =
    let f : SFits w64 c.args.line.bound = search (rules, c) in
    subst (λ (z : ℤ). nat_abs z < 2 ^ 63) (sym (bound-fits c.args.line.bound f)) (omega (arith, c.requires.bound))

pub returns : goal.returns
returns c =
    let l = c.args.line in
    let f : SFits w64 l.bound = search (rules, c) in
    let b = to_z-of_z {w = w64} (sfits_of c.signed.type_inv) ∙ c.signed.ensures ∙ ap (signed true) (bound-fits l.bound f) in
    λ i. record {
      positive = l.positive;
      negative = l.negative;
      relation = l.relation;
      coefficients = c.turned-coefficients.ensures i;
      bound = b i;
    }
