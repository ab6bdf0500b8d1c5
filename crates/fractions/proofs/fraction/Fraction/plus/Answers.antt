-- `Fraction::plus` meets its contract: the denominator, times the whole number, is added to the numerator.
use Rattle.std.proofs.Common.{pos, ◌*ℤ◌, arith}
use Rattle.rules.specs.Values.{plus}
use Rattle.fractions.specs.Enough.{cross-≤}
use Rattle.fractions.proofs.Signed.{same, crossed, summed}
use Rattle.fractions.proofs.fraction.Fraction.plus.Goals as goal

pub returns : goal.returns
unfolding plus
returns c =
    let x = c.args.self in
    rw (
      same x.numerator (omega arith),
      crossed c.args.z x.denominator (omega arith) (omega arith),
      summed x.numerator (c.args.z *ℤ pos x.denominator) (omega arith) (cross-≤ c.args.z x.denominator (omega arith) (omega arith)),
    ) at c.reduce.ensures
