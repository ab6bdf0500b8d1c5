-- `carrying::jemuling_carry_back` meets its contract. Assumes nothing.
use mathlib.Core.Path.{ap, ◌∙◌}
use native.Mathlib.Omega.{arith}
use Rattle.theory_bytes.specs.Bytes.{all-bytes}
use Rattle.jemuling.specs.Told.{carried_told}
use Rattle.jemuling.specs.Carried.{model-carried-back}
use Rattle.jemuling.proofs.carrying.jemuling_carry_back.Goals as goal

pub returns : goal.returns
returns c =
    let t = c.carried_told.ensures ∙ ap carried_told c.carry_back.ensures.value in
    let o = c.carry_back.ensures.target_after in
    let are = all-bytes c.args.input.now (λ i. omega (arith, c.shared_slice_known-1.given i)) in
    let left = all-bytes c.carry_back.new.target (λ i. omega (arith, c.slice_known-2-1.given i)) in
    record { value = t; target_after = o; model_carried_back = model-carried-back _ _ _ _ _ are left t o }
