-- `Fraction::beyond` meets its contract: the second test counts only where the first fails.
use Rattle.std.proofs.Common.{◌≡◌, nat_abs, rules, lt-ltb, le-ltb}
use Rattle.rules_types.specs.Limits.{amount}
use Rattle.rules.specs.Values.{beyond}
use Rattle.fractions.proofs.fraction.Fraction.beyond.Goals as goal

pub returns-then-size-gt-AMOUNT : goal.returns-then-size-gt-AMOUNT
unfolding beyond
returns-then-size-gt-AMOUNT c =
    let e : c.size.result ≡ nat_abs c.args.self.numerator = search rules in
    rw (← e, lt-ltb amount c.size.result c.if-size-gt-AMOUNT.true)

pub returns-else-size-gt-AMOUNT : goal.returns-else-size-gt-AMOUNT
unfolding beyond
returns-else-size-gt-AMOUNT c =
    let e : c.size.result ≡ nat_abs c.args.self.numerator = search rules in
    rw (← e, le-ltb amount c.size.result c.if-size-gt-AMOUNT.false)
