-- `scan::scan` meets its contract. Assumes nothing.
use mathlib.Core.Path.{sym, ◌∙◌}
use Rattle.problem_scan.specs.Scans.{scanned-long, scanned-short}
use Rattle.problem_scan.proofs.scan.scan.Goals as goal

pub returns-then-input-gt-PROBLEM_BYTES : goal.returns-then-input-gt-PROBLEM_BYTES
returns-then-input-gt-PROBLEM_BYTES c = sym (scanned-long c.args.input.now c.if-input-gt-PROBLEM_BYTES.true)

pub returns : goal.returns
returns c = c.problem.ensures ∙ sym (scanned-short c.args.input.now c.if-input-gt-PROBLEM_BYTES.false)
