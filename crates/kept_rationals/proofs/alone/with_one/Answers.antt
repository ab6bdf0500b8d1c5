-- `alone::with_one` meets its contract: a law for each return. Assumes nothing.
use Rattle.kept_rationals.specs.Alone.{bits-zero, bits-second, bits_positive, bits-first}
use Rattle.kept_rationals.proofs.alone.with_one.Goals as goal

pub returns-then-n-eq0 : goal.returns-then-n-eq0
returns-then-n-eq0 c = bits-zero _ _ _ _ c.if-n-eq0.true

pub returns-then-found-r : goal.returns-then-found-r
returns-then-found-r c = bits-second _ _ _ _ c.if-n-eq0.false c.if-found-r.true

pub returns-then-n-lt2147483648 : goal.returns-then-n-lt2147483648
returns-then-n-lt2147483648 c = bits_positive _ _ _ _ c.if-n-eq0.false c.if-found-r.false c.if-n-lt2147483648.true

pub returns : goal.returns
returns c = bits-first _ _ _ _ c.if-n-eq0.false c.if-found-r.false c.if-n-lt2147483648.false
