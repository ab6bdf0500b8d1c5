-- THE THEOREM: the check accepts a trimmed proof for the problem for which it accepts the whole one.
use Rattle.std.specs.Prelude.{◌≡◌, ◌&&◌, List, ℕ, ◌%◌, ◌≤◌, T, eqb, leb, length}
use Rattle.std.proofs.Common.{arith, le→leb}
use Rattle.std.proofs.Math.Facts.{yes_and}
use Rattle.rules_types.specs.declared.answers.Checked.TheVariants.{Accepted}
use Rattle.rules_types.specs.declared.limits.Limits.{Limits}
use Rattle.rules_types.specs.declared.terms.Terms.{Terms}
use Rattle.rules_types.specs.Limits as limit
use Rattle.rules.specs.Problem.{in_edition}
use Rattle.rules.specs.Calls.{whole_steps, proof_checked}
use Rattle.rules.specs.Trim.{trimmed}
use Rattle.theory_lists.specs.Tests.{is_true}
use Rattle.theory_splitting.specs.WellRead.{posed-well-formed}
use Rattle.theory_checks.specs.EliminationAccepted.{parts-encodable}
use Rattle.theory_checks.specs.ProofChecked.{checked-proof}
use Rattle.theory_trimming.specs.AcceptedLines.{accepted-lines, lines-accepted}
use Rattle.theory_trimming.specs.Ordered.{Trimmable, accepted-trimmable}
use Rattle.theory_trimming.specs.Trimmed.{trimmed-length, trimmed-some, trimmed-few}
use Rattle.theory_trimming.specs.ShortLines.{short-lines}

trimmed-whole : {limits : Limits} {proof : List ℕ} → Trimmable limits proof → T (whole_steps limits (length (trimmed proof)))
unfolding whole_steps
trimmed-whole {limits} {proof} c =
    let n = length (trimmed proof) in
    let size = trimmed-length c in
    let most = limit.proof_bytes limits in
    let e : n % limit.step_bytes ≡ 0 = omega arith in
    yes_and (leb limit.step_bytes n && leb n most) (eqb (n % limit.step_bytes) 0)
    (yes_and (leb limit.step_bytes n) (leb n most) (le→leb limit.step_bytes n (omega (arith, trimmed-some c)))
    (le→leb n most (omega (arith, trimmed-few c, c.few)))) (rw e tt)

pub trimmed-accepted : (terms : Terms) → terms.limits.steps ≤ limit.most_steps → (input proof : List ℕ)
    → proof_checked terms input proof ≡ Accepted → proof_checked terms input (trimmed proof) ≡ Accepted
unfolding proof_checked
trimmed-accepted terms most input proof a =
    let c = checked-proof terms input proof a in
    let t = accepted-trimmable terms input proof a in
    let p = in_edition terms.edition c.problem in
    let known = parts-encodable p (posed-well-formed terms.edition input c.problem c.reads) in
    rw (c.reads, proof_checked, is_true (whole_steps terms.limits (length (trimmed proof))) (trimmed-whole t))
    (lines-accepted p (trimmed proof) (short-lines p known t most (accepted-lines p proof c.accepted)))
