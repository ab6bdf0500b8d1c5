-- `Fraction::reduce` meets its contract: the divisor is positive and at most the denominator.
use Rattle.std.proofs.Common.{◌≡◌, ◌≤◌, ◌<◌, nat_abs, rules, to_z-of_z}
use Rattle.rules.specs.Arithmetic.{gcd}
use Rattle.rules.specs.Values.{reduce}
use Rattle.fractions.specs.Enough.{divisor-positive, divisor-≤}
use Rattle.fractions.proofs.Signed.{same, natural, quotient_fits}
use Rattle.fractions.proofs.fraction.Fraction.reduce.Goals as goal
use Rattle.fractions.proofs.fraction.Fraction.reduce.Goals.{After-gcd-g}

divisor : (c : After-gcd-g) → let x = c.args.self in
    c.gcd-g.result ≡ gcd (nat_abs x.numerator) x.denominator
divisor c = rw (c.size.ensures, same c.args.self.numerator c.requires.numerator) at c.gcd-g.ensures

positive : (c : After-gcd-g) → 0 < c.gcd-g.result
positive c = rw (divisor c) (divisor-positive c.args.self.numerator c.args.self.denominator c.requires)

small : (c : After-gcd-g) → c.gcd-g.result ≤ 9000000000000000000
small c = rw (divisor c) (divisor-≤ c.args.self.numerator c.args.self.denominator c.requires)

pub overflow_cast-result : goal.overflow_cast-result
overflow_cast-result c = let h = small (goal.at.overflow_cast-result c).After-gcd-g in search rules

pub nonzero_div-result : goal.nonzero_div-result
nonzero_div-result c =
    let n = c.args.self.numerator in
    let at = (goal.at.nonzero_div-result c).After-gcd-g in
    rw (same n c.requires.numerator, natural c.gcd-g.result (small at))
    (positive at, quotient_fits n c.gcd-g.result c.requires.numerator)

pub nonzero_div-result-2 : goal.nonzero_div-result-2
nonzero_div-result-2 c = positive (goal.at.nonzero_div-result-2 c).After-gcd-g

pub returns : goal.returns
unfolding reduce
returns c =
    let n = c.args.self.numerator in
    let at = (goal.at.returns c).After-gcd-g in
    rw (
      same n c.requires.numerator,
      natural c.gcd-g.result (small at),
      to_z-of_z (quotient_fits n c.gcd-g.result c.requires.numerator),
      divisor at,
    )
