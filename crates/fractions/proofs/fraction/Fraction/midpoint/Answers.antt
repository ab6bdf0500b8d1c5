-- `Fraction::midpoint` meets its contract: the sum of the crossed products over twice the product of the denominators, reduced.
use Rattle.std.proofs.Common.{pos, ◌*ℤ◌}
use Rattle.rules.specs.Values.{midpoint}
use Rattle.fractions.specs.Meaning.{meaning}
use Rattle.fractions.specs.Enough.{cross-≤, midpoint-ratio}
use Rattle.fractions.proofs.Signed.{crossed, summed, sum_fits}
use Rattle.fractions.proofs.fraction.Fraction.midpoint.Goals as goal

pub overflow_add-numerator : goal.overflow_add-numerator
overflow_add-numerator c =
    let x = c.args.self in
    let y = c.args.other in
    rw (
      crossed x.numerator y.denominator c.requires.0.numerator c.requires.1.denominator,
      crossed y.numerator x.denominator c.requires.1.numerator c.requires.0.denominator,
    )
    (sum_fits (x.numerator *ℤ pos y.denominator) (y.numerator *ℤ pos x.denominator)
    (cross-≤ x.numerator y.denominator c.requires.0.numerator c.requires.1.denominator)
    (cross-≤ y.numerator x.denominator c.requires.1.numerator c.requires.0.denominator))

pub reduce-requires : goal.reduce-requires
reduce-requires c =
    let x = c.args.self in
    let y = c.args.other in
    rw (
      crossed x.numerator y.denominator c.requires.0.numerator c.requires.1.denominator,
      crossed y.numerator x.denominator c.requires.1.numerator c.requires.0.denominator,
      summed (x.numerator *ℤ pos y.denominator) (y.numerator *ℤ pos x.denominator)
          (cross-≤ x.numerator y.denominator c.requires.0.numerator c.requires.1.denominator)
          (cross-≤ y.numerator x.denominator c.requires.1.numerator c.requires.0.denominator),
    )
    (midpoint-ratio (meaning x) (meaning y) c.requires.0 c.requires.1)

pub returns : goal.returns
unfolding midpoint
returns c =
    let x = c.args.self in
    let y = c.args.other in
    rw (
      crossed x.numerator y.denominator c.requires.0.numerator c.requires.1.denominator,
      crossed y.numerator x.denominator c.requires.1.numerator c.requires.0.denominator,
      summed (x.numerator *ℤ pos y.denominator) (y.numerator *ℤ pos x.denominator)
          (cross-≤ x.numerator y.denominator c.requires.0.numerator c.requires.1.denominator)
          (cross-≤ y.numerator x.denominator c.requires.1.numerator c.requires.0.denominator),
    ) at c.reduce.ensures
