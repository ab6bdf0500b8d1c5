-- `kept::put_marked` meets its contract. Assumes nothing.
use mathlib.Core.Path.{◌≡◌, sym, ◌∙◌}
use mathlib.Core.Bool.{true, false}
use borrow.Author.Tests.{not-true, not-false}
use Rattle.trimming.specs.Kept.{put-not, put-yes}
use borrow.Author.Rules.{rules}
use Rattle.trimming.proofs.kept.put_marked.Goals as goal

pub returns-then-not-marked : goal.returns-then-not-marked
returns-then-not-marked c =
    let t : c.marked.result ≡ false = search (rules, not-true, not-false, c.if-not-marked) in
    put-not (sym c.marked.ensures ∙ t)

pub returns : goal.returns
returns c =
    let t : c.marked.result ≡ true = search (rules, not-true, not-false, c.if-not-marked) in
    put-yes (sym c.marked.ensures ∙ t) c.put_step.ensures
