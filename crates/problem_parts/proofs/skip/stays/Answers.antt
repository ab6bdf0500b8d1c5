-- `skip::stays` meets its contract. Assumes nothing.
use mathlib.Core.Path.{ap, ◌∙◌}
use Prim.Native.Nat.{ℕ}
use lib.Dec.{eqb}
use Rattle.problem_scan.specs.Values.{constraint_at}
use Rattle.problem_clauses.specs.declared.splits.Fate.{Fate}
use Rattle.problem_clauses.specs.Remaining.{weight}
use Rattle.problem_parts.specs.Skip.{stays-is}
use Rattle.problem_parts.proofs.skip.stays.Goals as goal

pub returns : goal.returns
returns c =
    ap (λ (n : ℕ). eqb n 1) (c.weight.ensures ∙ ap (λ (f : Fate). weight f) c.settled.ensures)
    ∙ stays-is (constraint_at c.args.input.now c.args.second c.args.r c.args.at)
