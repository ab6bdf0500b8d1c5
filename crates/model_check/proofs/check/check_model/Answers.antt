-- `check::check_model` meets its contract: the problem's fault, or a problem that was read without fault.
use mathlib.Core.Path.{sym, ◌∙◌}
use Rattle.problem_read.specs.Readable.{readable}
use Rattle.model_check.specs.Check.{checked-fault}
use Rattle.model_check.proofs.check.check_model.Goals as goal

pub check_readable-requires : goal.check_readable-requires
check_readable-requires c =
    readable c.args.input.now _ (sym c.read-scan.ensures ∙ c.in-Sound.is)

pub returns-in-Fault : goal.returns-in-Fault
returns-in-Fault c =
    sym (checked-fault c.args.terms c.args.input.now c.args.bytes.now _ _
    (sym c.read-scan.ensures ∙ c.in-Fault.is))
