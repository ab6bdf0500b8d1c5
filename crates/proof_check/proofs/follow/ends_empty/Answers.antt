-- `follow::ends_empty` meets its contract. Assumes nothing.
use mathlib.Core.Path.{ap, ◌∙◌}
use native.Mathlib.Omega.{arith}
use Rattle.rules.specs.Lines.{is_empty}
use Rattle.lines.specs.declared.line.Line.{Line}
use Rattle.lines.specs.Line.{meaning}
use Rattle.proof_check.specs.Checking.{ends-none, ends_last}
use Rattle.proof_check.proofs.follow.ends_empty.Goals as goal

pub returns-then-count-eq0 : goal.returns-then-count-eq0
returns-then-count-eq0 c = ends-none c.args.proof.now _ c.if-count-eq0.true

pub returns : goal.returns
returns c =
    c.is_empty.ensures ∙ ap (λ (l : Line). is_empty (meaning l)) c.line_at-line.ensures
    ∙ ends_last c.args.proof.now _ (omega arith)
