-- `resolve::resolve_boolean` meets its contract. Assumes nothing.
use mathlib.Core.Path.{subst}
use borrow.Author.Rules.{rules}
use Rattle.rules.specs.Lines as rules
use Rattle.rules.specs.Normalize.{normal_line}
use Rattle.rules.specs.Resolve.{resolve}
use Rattle.normalization.specs.Reduced.{ready-bounded}
use Rattle.resolvents.specs.Resolved.{Gives}
use Rattle.resolvents.proofs.resolve.resolve_boolean.Goals as goal

pub finish-requires : goal.finish-requires
finish-requires c = let r = c.resolvent_boolean.ensures.ready_3 in record { shaped = r.shaped; bounded = ready-bounded r }

pub returns : goal.returns
unfolding resolve
returns c = subst (λ (m : rules.Line). Gives (normal_line m) c.finish.result)
    c.resolvent_boolean.ensures.result_value c.finish.ensures
