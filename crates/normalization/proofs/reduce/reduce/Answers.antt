-- `reduce::reduce` meets its contract. Assumes nothing.
use mathlib.Core.Path.{◌≡◌, ap, ◌∙◌}
use mathlib.Core.List.{◌∷◌}
use Prim.Native.Nat.{ℕ, ◌^◌, ◌<◌}
use native.Mathlib.Omega.{arith}
use borrow.Author.Rules.{rules, sfits_of}
use lib.IntN.{ℤ}
use mir.Syntax.{w64}
use mir.Val.{SFits}
use mir.Facts.{to_z-of_z}
use Rattle.rules.specs.Arithmetic.{gcd_all}
use Rattle.theory_vectors.specs.Constraint.{quotients}
use Rattle.lines.specs.Line.{constraint_of, meaning}
use Rattle.normalization.specs.Reduced.{reduced_line, reduced-is, with-constraint, content-positive, content-small}
use Rattle.normalization.proofs.reduce.reduce.Goals as goal
use Rattle.normalization.proofs.reduce.reduce.Goals.{After-content-g, Start}

bound-fits : (s : Start) → SFits w64 s.args.line.bound
bound-fits s = search (rules, s.well_formed)

content-is : (c : After-content-g)
    → c.content-g.result ≡ gcd_all (c.args.line.bound ∷ c.args.line.coefficients)
content-is c = c.content-g.ensures
    ∙ ap (λ (b : ℤ). gcd_all (b ∷ c.args.line.coefficients)) (to_z-of_z (bound-fits (goal.at.After-content-g c).Start))

-- the content is a divisor of the machine's signed numbers
divisor : (c : After-content-g) → (0 < c.content-g.result) × (c.content-g.result < 2 ^ 63)
divisor c =
    let l = c.args.line in
    let nonzero = c.requires.coefficients_value in
    rw (content-is c) (
      content-positive l.coefficients l.bound nonzero,
      content-small l.coefficients l.bound nonzero c.requires.bounded.coefficients,
    )

pub divide-out-requires : goal.divide-out-requires
divide-out-requires c = record { g_nonzero = (divisor c).0; g_bound = (divisor c).1 }

pub quotient-end-requires : goal.quotient-end-requires
quotient-end-requires c = record {
  g_nonzero = (divisor (goal.at.quotient-end-requires c).After-content-g).0;
  g_bound = (divisor (goal.at.quotient-end-requires c).After-content-g).1;
}

pub returns : goal.returns
unfolding meaning reduced_line
returns c =
    let l = c.args.line in
    let row = c.divide-out.ensures ∙ ap (λ (g : ℕ). quotients g l.coefficients) (content-is (goal.at.returns c).After-content-g) in
    let bound = to_z-of_z {w = w64} (sfits_of c.quotient-end.type_inv)
    ∙ (rw (to_z-of_z (bound-fits (goal.at.returns c).Start), content-is (goal.at.returns c).After-content-g) at c.quotient-end.ensures) in
    let some-relation : 0 < l.relation = with-constraint l c.requires.shaped c.requires.coefficients_value in
    let x = (λ i. constraint_of l.relation (row i) (bound i)) ∙ reduced-is l.relation l.coefficients l.bound in
    record {
      result_value = λ i. record { positive = (meaning l).positive; negative = (meaning l).negative; constraint = x i };
      shaped_2 = record {
        related = c.requires.shaped.related;
        coefficients = λ z. absurd (omega arith);
        bound = λ z. absurd (omega arith);
      };
    }
