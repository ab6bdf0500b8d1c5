-- `read::read` meets its contract: the scan's fault, or what counting the split variables gives.
use mathlib.Core.Path.{sym, ◌∙◌}
use Rattle.problem_read.specs.Parsed.{Parsed, scan-parsed}
use Rattle.problem_read.specs.ScanOf.{scan_of-fault, scan_of-within, scan_of-over}
use Rattle.problem_read.proofs.read.read.Goals as goal
use Rattle.problem_read.proofs.read.read.Goals.{In-Sound}

pub returns-in_default : goal.returns-in_default
returns-in_default c =
    c.in_default.is ∙ sym (scan_of-fault c.args.input.now _ _ (sym c.scan-s.ensures ∙ c.in_default.is))

-- what the scan gave
parsed : (c : In-Sound) → Parsed c.args.input.now c.in-Sound.sizes
parsed c = scan-parsed c.args.input.now _ (sym c.scan-s.ensures ∙ c.in-Sound.is)

pub over-e-requires : goal.over-e-requires
over-e-requires c = (parsed (goal.at.over-e-requires c).In-Sound).within

pub returns-in-Within : goal.returns-in-Within
returns-in-Within c =
    sym (scan_of-within (parsed (goal.at.returns-in-Within c).In-Sound) c.over-e.result c.over-e.ensures c.in-Within.is)

pub returns-in-At : goal.returns-in-At
returns-in-At c =
    sym (scan_of-over (parsed (goal.at.returns-in-At c).In-Sound) c.over-e.result c.over-e.ensures _ c.in-At.is)
