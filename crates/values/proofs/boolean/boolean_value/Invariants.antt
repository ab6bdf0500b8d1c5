-- `boolean::boolean_value` meets its contract. Invariant: the lines that are left decide. Assumes nothing.
use Rattle.std.proofs.Common.{◌≡◌, drop}
use Rattle.rules.specs.Lists.{any}
use Rattle.lines.specs.Order.{variables_of}
use Rattle.steps.specs.Lines.{lines_in}
use Rattle.models.specs.Model.{assignment}
use Rattle.values.specs.Boolean.{forces}
use Rattle.values.proofs.boolean.boolean_value.Given as goal

abbrev pub invariant-loop-j : goal.invariant-loop-j
invariant-loop-j l = any (forces (variables_of l.order) (assignment l.model) l.i) (lines_in l.proof l.n)
    ≡ any (forces (variables_of l.order) (assignment l.model) l.i) (drop l.j (lines_in l.proof l.n))
