-- `failing::check_added` meets its contract. Invariant: the first f rational variables are not below 0. Assumes nothing.
use Rattle.models.specs.Model.{value}
use Rattle.model_check.specs.Added.{NotBelow}
use Rattle.model_check.proofs.failing.check_added.Given as goal

abbrev pub invariant-loop-f : goal.invariant-loop-f
invariant-loop-f l = NotBelow (value l.model.numerators) l.f
