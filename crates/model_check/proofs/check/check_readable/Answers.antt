-- `check::check_readable` meets its contract: a law for each return.
use Rattle.std.proofs.Common.{sym, ◌∙◌}
use Rattle.model_check.specs.Check.{checked-short, checked-bad, checked-clauses}
use Rattle.model_check.proofs.check.check_readable.Goals as goal

pub returns-then-bytes-lt-MODEL_BYTES : goal.returns-then-bytes-lt-MODEL_BYTES
returns-then-bytes-lt-MODEL_BYTES c = sym (checked-short c.args.terms c.requires c.args.bytes.now c.if-bytes-lt-MODEL_BYTES.true)

-- the model is read with the problem's open variables
pub returns-in-Ok : goal.returns-in-Ok
returns-in-Ok c =
    c.check_posed.ensures
    ∙ sym (checked-clauses c.args.terms c.requires c.args.bytes.now c.if-bytes-lt-MODEL_BYTES.false c.in-Ok.model
    (rw c.occurring-occurs.ensures at c.in-Ok.ensures))

pub returns-in-Err : goal.returns-in-Err
returns-in-Err c =
    sym (checked-bad c.args.terms c.requires c.args.bytes.now c.if-bytes-lt-MODEL_BYTES.false c.in-Err.place
    (rw c.occurring-occurs.ensures at c.in-Err.ensures))
