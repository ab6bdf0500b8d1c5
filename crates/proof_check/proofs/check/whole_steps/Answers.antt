-- `check::whole_steps` meets its contract. Assumes nothing.
use lib.Dec.{leb}
use mathlib.Core.Bool.{true}
use mathlib.Core.Path.{◌≡◌}
use borrow.Author.Tests.{le-leb, lt-leb}
use native.Mathlib.Omega.{arith}
use Rattle.rules_types.specs.Limits as limit
use Rattle.rules.specs.Calls.{whole_steps}
use Rattle.proof_check.proofs.check.whole_steps.Goals as goal
use Rattle.proof_check.proofs.check.whole_steps.Goals.{Else-n-lt-STEP_BYTES}

pub returns-then-n-lt-STEP_BYTES : goal.returns-then-n-lt-STEP_BYTES
unfolding whole_steps
returns-then-n-lt-STEP_BYTES c = rw (lt-leb limit.step_bytes c.args.n c.if-n-lt-STEP_BYTES.true)

long-enough : (c : Else-n-lt-STEP_BYTES) → leb limit.step_bytes c.args.n ≡ true
long-enough c = le-leb limit.step_bytes c.args.n c.if-n-lt-STEP_BYTES.false

pub returns-then-proof_bytes-n : goal.returns-then-proof_bytes-n
unfolding whole_steps
returns-then-proof_bytes-n c =
    let h = lt-leb c.args.n (limit.proof_bytes c.args.limits) (omega (arith, c.if-proof_bytes-n.true, c.proof_bytes.ensures)) in
    rw (long-enough (goal.at.returns-then-proof_bytes-n c).Else-n-lt-STEP_BYTES, h)

pub returns : goal.returns
unfolding whole_steps
returns c =
    let h = le-leb c.args.n (limit.proof_bytes c.args.limits) (omega (arith, c.if-proof_bytes-n.false, c.proof_bytes.ensures)) in
    rw (long-enough (goal.at.returns c).Else-n-lt-STEP_BYTES, h)
