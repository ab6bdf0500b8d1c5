-- `Fraction::less` meets its contract: it compares the crossed products.
use Rattle.rules.specs.Values.{less}
use Rattle.fractions.proofs.Signed.{crossed}
use Rattle.fractions.proofs.fraction.Fraction.less.Goals as goal

pub returns : goal.returns
unfolding less
returns c =
    let x = c.args.self in
    let y = c.args.other in
    rw (
      crossed x.numerator y.denominator c.requires.0.numerator c.requires.1.denominator,
      crossed y.numerator x.denominator c.requires.1.numerator c.requires.0.denominator,
    )
