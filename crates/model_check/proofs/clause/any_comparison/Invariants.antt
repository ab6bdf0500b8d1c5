-- `clause::any_comparison` meets its contract: what is left decides.
use Rattle.rules_types.specs.Layout.{comparison_bytes}
use Rattle.rules.specs.Meaning.{comparison_holds}
use Rattle.problem_scan.specs.Values.{comparison_at}
use Rattle.models.specs.Model.{assignment}
use Rattle.model_check.specs.Any.{Asking}
use Rattle.model_check.proofs.clause.any_comparison.Given as goal

abbrev pub invariant-loop-i : goal.invariant-loop-i
invariant-loop-i l =
    Asking (comparison_holds (assignment l.model)) (comparison_at l.input l.r) (comparison_bytes l.r) l.from l.count l.i
