-- `carry::carry_back` meets its contract: the problem's fault, or a problem that was read without fault. Assumes nothing.
use mathlib.Core.Path.{sym, ◌∙◌}
use Rattle.problem_read.specs.Readable.{readable}
use Rattle.carrying_back.specs.Carry.{gives, gives-fault}
use Rattle.carrying_back.proofs.carry.carry_back.Goals as goal

pub carry_readable-requires : goal.carry_readable-requires
carry_readable-requires c =
    readable c.args.input.now _ (sym c.read-scan.ensures ∙ c.in-Sound.is)

pub returns-in-Fault : goal.returns-in-Fault
returns-in-Fault c = record {
  value = (gives (gives-fault c.args.input.now c.args.bytes.now c.args.target.now _ _
      (sym c.read-scan.ensures ∙ c.in-Fault.is))).0;
  target_after = (gives (gives-fault c.args.input.now c.args.bytes.now c.args.target.now _ _
      (sym c.read-scan.ensures ∙ c.in-Fault.is))).1;
}
