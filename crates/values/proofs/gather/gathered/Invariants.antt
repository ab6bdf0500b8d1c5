-- `gather::gathered` meets its contract. Invariant: the bounds are those of the lines from j on. Assumes nothing.
use Rattle.std.proofs.Common.{drop}
use Rattle.steps.specs.Lines.{lines_in}
use Rattle.models.specs.Model.{assignment}
use Rattle.values.specs.Gather.{CollectedIn}
use Rattle.values.proofs.gather.gathered.Given as goal

abbrev pub invariant-loop-j : goal.invariant-loop-j
invariant-loop-j l = CollectedIn l.bounds (assignment l.model) l.current (drop l.j (lines_in l.proof l.n))
