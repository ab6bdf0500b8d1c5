-- `resolve::resolve_rational` meets its contract. Assumes nothing.
use mathlib.Core.Path.{subst}
use borrow.Author.Rules.{rules}
use Rattle.rules.specs.Lines as rules
use Rattle.rules.specs.Normalize.{normal_line}
use Rattle.rules.specs.Resolve.{resolve}
use Rattle.resolvents.specs.Resolved.{Gives}
use Rattle.resolvents.proofs.resolve.resolve_rational.Goals as goal

pub returns : goal.returns
unfolding resolve
returns c = subst (λ (m : rules.Line). Gives (normal_line m) c.finish.result)
    c.resolvent_rational.ensures.result_value c.finish.ensures
