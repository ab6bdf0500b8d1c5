-- `on_terms::check_sheet_on` meets its contract. Assumes nothing.
use mathlib.Core.Path.{ap, ◌∙◌}
use native.Mathlib.Omega.{arith}
use Rattle.theory_bytes.specs.Bytes.{all-bytes}
use Rattle.jemuling.specs.Told.{checked_told}
use Rattle.jemuling.specs.Kept.{sheet-checked}
use Rattle.jemuling.proofs.on_terms.check_sheet_on.Goals as goal

pub returns : goal.returns
returns c =
    let e = c.checked_told.ensures ∙ ap checked_told c.check_model.ensures in
    record {
      value = e;
      sheet_checked = sheet-checked _ _ _ _ (all-bytes c.args.input.now
          (λ i. omega (arith, c.shared_slice_known-1.given i))) e;
    }
