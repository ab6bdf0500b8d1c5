-- `convert::convert` meets its contract: the problem's fault, or a problem that was read without fault. Assumes nothing.
use mathlib.Core.Path.{sym, ap, ◌∙◌}
use Rattle.rules.specs.Convert.{Converting}
use Rattle.problem_read.specs.Readable.{readable}
use Rattle.conversion.specs.Problem.{convert-fault}
use Rattle.conversion.proofs.convert.convert.Goals as goal

pub convert_readable-requires : goal.convert_readable-requires
convert_readable-requires c =
    readable c.args.input.now _ (sym c.read-scan.ensures ∙ c.in-Sound.is)

pub returns-in-Fault : goal.returns-in-Fault
returns-in-Fault c =
    let e = convert-fault c.args.input.now c.args.out.now _ _ (sym c.read-scan.ensures ∙ c.in-Fault.is) in
    record { value = sym (ap (λ (r : Converting). r.converted) e); out_after = sym (ap (λ (r : Converting). r.output) e) }
