-- The lines that a proof's bytes hold, by their numbers.
use Rattle.std.specs.Prelude.{List, ℕ, ◌<◌}
use Rattle.rules.specs.Lists.{tabulate}
use Rattle.rules.specs.Lines as rules
use Rattle.lines.specs.declared.line.Line.{Line}
use Rattle.lines.specs.Line.{meaning, Ready}
use Rattle.steps.specs.Places.{step_at}
use Rattle.steps.specs.Decoding.{decoded}

-- the line of step i
unfoldable pub line_at : List ℕ → ℕ → Line
line_at proof i = decoded (step_at proof i)

-- the first n lines
unfoldable pub lines_in : List ℕ → ℕ → List rules.Line
lines_in proof n = tabulate n (λ i. meaning (line_at proof i))

-- each of them is one that a proof can hold
abbrev pub ReadyLines : List ℕ → ℕ → Type 0
ReadyLines proof n = (i : ℕ) → i < n → Ready (line_at proof i)
