-- `follow::check_steps` meets its contract. Assumes nothing.
use mathlib.Core.Path.{◌≡◌}
use mathlib.Core.Bool.{cond}
use Prim.Native.Nat.{◌/◌}
use lib.ListN.{length}
use Rattle.rules_types.specs.declared.answers.Checked.TheVariants.{Accepted, Fails}
use Rattle.rules_types.specs.Limits.{step_bytes}
use Rattle.rules.specs.Checker.{check_proof}
use Rattle.problem_read.specs.Parsed.{posed_at}
use Rattle.proof_check.specs.Checking.{check-fails, check-follow}
use Rattle.proof_check.proofs.follow.check_steps.Goals as goal
use Rattle.proof_check.proofs.follow.check_steps.Goals.{After-ends_empty}

-- where all steps follow, the end decides
ended : (c : After-ends_empty) →
    let a = c.args in
    let n = length a.proof.now / step_bytes in
    cond c.ends_empty.result Accepted (Fails n) ≡ check_proof (posed_at a.edition a.input.now a.sizes) a.proof.now
ended c = check-follow _ _ c.follow_steps-f.ensures c.in-Follow.is c.ends_empty.ensures

pub returns-then-ends_empty : goal.returns-then-ends_empty
returns-then-ends_empty c = rw c.if-ends_empty.true at (ended (goal.at.returns-then-ends_empty c).After-ends_empty)

pub returns-in-Fails : goal.returns-in-Fails
returns-in-Fails c = check-fails _ _ c.follow_steps-f.ensures _ c.in-Fails.is

pub returns-else-ends_empty : goal.returns-else-ends_empty
returns-else-ends_empty c = rw c.if-ends_empty.false at (ended (goal.at.returns-else-ends_empty c).After-ends_empty)
