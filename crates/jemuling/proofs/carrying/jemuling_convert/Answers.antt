-- `carrying::jemuling_convert` meets its contract. Assumes nothing.
use mathlib.Core.Path.{ap, ◌∙◌}
use native.Mathlib.Omega.{arith}
use Rattle.theory_bytes.specs.Bytes.{all-bytes}
use Rattle.jemuling.specs.Told.{converted_told}
use Rattle.jemuling.specs.Carried.{problem-converted}
use Rattle.jemuling.proofs.carrying.jemuling_convert.Goals as goal

pub returns : goal.returns
returns c =
    let t = c.converted_told.ensures ∙ ap converted_told c.convert.ensures.value in
    let o = c.convert.ensures.out_after in
    let are = all-bytes c.args.input.now (λ i. omega (arith, c.shared_slice_known-1.given i)) in
    let left = all-bytes c.convert.new.out (λ i. omega (arith, c.slice_known-2-1.given i)) in
    record { value = t; output_after = o; problem_converted = problem-converted _ _ _ _ are left t o }
