-- `admit::admit` meets its contract. Assumes nothing.
use mathlib.Core.Path.{◌≡◌, sym, ap, ◌∙◌}
use mathlib.Core.List.{List}
use Prim.Native.Nat.{ℕ, ◌*◌}
use native.Mathlib.Omega.{arith}
use lib.ListN.{length}
use Rattle.rules_types.specs.Limits as limit
use Rattle.fields.specs.Field.{stored}
use Rattle.lines.specs.Line.{meaning}
use Rattle.steps.specs.Origin.{header_of}
use Rattle.steps.specs.Encoding.{encoded}
use Rattle.steps.specs.Held.{Words, step_back, step-bytes}
use Rattle.placing.specs.Point.{admit-subsumed, admit-out-of-steps, admit-new}
use borrow.Author.Rules.{rules}
use Rattle.placing.proofs.admit.admit.Goals as goal
use Rattle.placing.proofs.admit.admit.Goals.{Start}

words : (s : Start) → Words s.args.step.line
words s = record {
  ready = s.requires.ready;
  eight = search (rules, s.well_formed.1.1.0.1);
  positive = search (rules, s.well_formed.1.1.0.1);
  negative = search (rules, s.well_formed.1.1.0.1);
}

pub returns-then-covered : goal.returns-then-covered
returns-then-covered c =
    admit-subsumed c.args.p c.requires.standing c.args.step (sym c.covered.ensures ∙ c.if-covered.true)

pub returns-then-limits-n : goal.returns-then-limits-n
returns-then-limits-n c =
    admit-out-of-steps c.args.p c.requires.standing c.args.step (sym c.covered.ensures ∙ c.if-covered.false) (omega arith)

pub returns : goal.returns
returns c =
    let a = c.args in
    let p = a.p in
    let bytes = encoded (header_of a.step.origin) (meaning a.step.line) in
    let wrote : c.put.new.proof ≡ stored (limit.step_bytes * p.steps) bytes a.proof.now = c.put.ensures
    ∙ ap (λ (x : List ℕ). stored (limit.step_bytes * p.steps) x a.proof.now) c.encode-bytes.ensures in
    let whole : length bytes ≡ limit.step_bytes = ap length (sym c.encode-bytes.ensures) ∙ search rules in
    rw (wrote, c.progress_of.ensures)
    (admit-new p c.requires.standing c.args.step (sym c.covered.ensures ∙ c.if-covered.false) bytes
    (step-bytes a.step c.requires.named (words (goal.at.returns c).Start))
    (step_back a.step c.requires.named (words (goal.at.returns c).Start)) (omega arith) whole)
