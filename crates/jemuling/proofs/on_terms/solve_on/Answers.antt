-- `on_terms::solve_on` meets its contract. Assumes nothing.
use mathlib.Core.Path.{ap, ◌∙◌}
use native.Mathlib.Omega.{arith}
use Rattle.theory_bytes.specs.Bytes.{all-bytes}
use Rattle.jemuling.specs.Told.{solved_told}
use Rattle.jemuling.specs.Kept.{delivered}
use Rattle.jemuling.proofs.on_terms.solve_on.Goals as goal

pub returns : goal.returns
returns c =
    let solved = c.solve_within.ensures in
    let t = c.solved_told.ensures ∙ ap solved_told solved.value in
    let b = solved.proof_after in
    let s = solved.model_after in
    let are = all-bytes c.args.input.now (λ i. omega (arith, c.shared_slice_known-1.given i)) in
    let left = all-bytes c.solve_within.new.proof (λ i. omega (arith, c.slice_known-3-1.given i)) in
    let written = all-bytes c.solve_within.new.model (λ i. omega (arith, c.slice_known-4-1.given i)) in
    record { value = t; proof_after = b; model_after = s; delivered = delivered c.args.terms c.requires _ _ _ _ _ _ are left written t b s }
