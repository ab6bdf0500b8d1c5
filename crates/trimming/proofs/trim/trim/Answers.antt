-- `trim::trim` meets its contract. Assumes nothing.
use mathlib.Core.Path.{◌≡◌, sym, ap, ◌∙◌}
use Prim.Native.Nat.{◌≤◌}
use native.Mathlib.Omega.{arith}
use lib.ListN.{length}
use Rattle.rules_types.specs.declared.limits.Limits.{Limits}
use Rattle.rules_types.specs.Limits as limit
use Rattle.rules_types.specs.Terms.{on}
use Rattle.rules.specs.Calls.{proof_checked}
use Rattle.theory_trimming.specs.Ordered.{accepted-trimmable}
use Rattle.trimming.specs.Trimmed.{gives-short, gives-fails, gives-refused, gives-steps}
use Rattle.trimming.proofs.trim.trim.Goals as goal
use Rattle.trimming.proofs.trim.trim.Goals.{After-check_proof-checked}

pub returns-then-target-proof_bytes : goal.returns-then-target-proof_bytes
returns-then-target-proof_bytes c =
    let a = c.args in
    let g = gives-short a.edition a.input.now a.proof.now a.target.now
    (omega (arith, c.if-target-proof_bytes.true, c.proof_bytes.ensures, ap (λ (l : Limits). l.steps) c.standard-limits.ensures)) in
    record { value = g.0; target_after = g.1 }

-- what the check answers, and that the target is long enough
checked-as : (c : After-check_proof-checked) → let a = c.args in
    proof_checked (on limit.standard a.edition) a.input.now a.proof.now ≡ c.check_proof-checked.result
checked-as c =
    let a = c.args in
    sym (c.check_proof-checked.ensures
    ∙ ap (λ (l : Limits). proof_checked (record { limits = l; edition = a.edition }) a.input.now a.proof.now)
    c.standard-limits.ensures)

room : (c : After-check_proof-checked) → limit.proof_bytes limit.standard ≤ length c.args.target.now
room c =
    omega (arith, c.if-target-proof_bytes.false, c.proof_bytes.ensures, ap (λ (l : Limits). l.steps) c.standard-limits.ensures)

pub put_trimmed-requires : goal.put_trimmed-requires
put_trimmed-requires c =
    let a = c.args in
    let k = (goal.at.put_trimmed-requires c).After-check_proof-checked in
    record {
      trimmable = accepted-trimmable (on limit.standard a.edition) a.input.now a.proof.now (checked-as k ∙ c.in-Accepted.is);
      standard_in_bounds = room k;
    }

pub returns-in-Accepted : goal.returns-in-Accepted
returns-in-Accepted c =
    let a = c.args in
    let k = (goal.at.returns-in-Accepted c).After-check_proof-checked in
    let g = gives-steps a.edition a.input.now a.proof.now a.target.now (room k) (checked-as k ∙ c.in-Accepted.is)
    c.put_trimmed.ensures.value c.put_trimmed.ensures.target_after in
    record { value = g.0; target_after = g.1 }

pub returns-in-Fails : goal.returns-in-Fails
returns-in-Fails c =
    let a = c.args in
    let k = (goal.at.returns-in-Fails c).After-check_proof-checked in
    let g = gives-fails a.edition a.input.now a.proof.now a.target.now (room k) _ (checked-as k ∙ c.in-Fails.is) in
    record { value = g.0; target_after = g.1 }

pub returns-in-Refused : goal.returns-in-Refused
returns-in-Refused c =
    let a = c.args in
    let k = (goal.at.returns-in-Refused c).After-check_proof-checked in
    let g = gives-refused a.edition a.input.now a.proof.now a.target.now (room k) _ _ (checked-as k ∙ c.in-Refused.is) in
    record { value = g.0; target_after = g.1 }
