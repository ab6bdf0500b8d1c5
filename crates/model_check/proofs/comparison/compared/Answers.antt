-- `comparison::compared` meets its contract: words are equal where the numbers are.
use Rattle.std.proofs.Common.{sym, ap, ◌∙◌, ℕ}
use Rattle.rules.specs.Problem.{relation_of}
use Rattle.rules.specs.Meaning.{compared}
use Rattle.machine.specs.Signed.{equal-test}
use Rattle.model_check.proofs.comparison.compared.Goals as goal

pub returns-in-3 : goal.returns-in-3
unfolding relation_of compared
returns-in-3 c =
    equal-test c.args.a c.args.b c.ranges.a c.ranges.b
    ∙ sym (ap (λ (n : ℕ). compared (relation_of n) c.args.a c.args.b) c.in-3.is)
