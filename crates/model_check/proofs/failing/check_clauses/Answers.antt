use Rattle.std.proofs.Common.{sym, ◌∙◌}
use Rattle.model_check.specs.Failing.{checking-done, checking-clause, checking-fails, checking-next}
use Rattle.model_check.proofs.failing.check_clauses.Goals as goal

pub clause_holds-requires-clause-sound_clause : goal.clause_holds-requires-clause-sound_clause
clause_holds-requires-clause-sound_clause c = checking-clause c.loop-k.invariant c.loop-k-test.true

pub returns-then-not-clause_holds : goal.returns-then-not-clause_holds
returns-then-not-clause_holds c =
    checking-fails c.loop-k.invariant c.loop-k-test.true (sym c.clause_holds.ensures ∙ c.if-not-clause_holds.true)

pub next-at-requires : goal.next-at-requires
next-at-requires c = (checking-clause c.loop-k.invariant c.loop-k-test.true).within

pub loop-k-preserved : goal.loop-k-preserved
loop-k-preserved c =
    rw c.next-at.ensures
    (checking-next c.loop-k.invariant c.loop-k-test.true (sym c.clause_holds.ensures ∙ c.if-not-clause_holds.false))

pub returns : goal.returns
returns c = checking-done c.loop-k.invariant c.loop-k-test.false
