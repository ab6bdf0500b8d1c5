-- `on_terms::check_book_on` meets its contract. Assumes nothing.
use mathlib.Core.Path.{ap, ◌∙◌}
use native.Mathlib.Omega.{arith}
use Rattle.theory_bytes.specs.Bytes.{all-bytes}
use Rattle.jemuling.specs.Told.{checked_told}
use Rattle.jemuling.specs.Kept.{book-checked}
use Rattle.jemuling.proofs.on_terms.check_book_on.Goals as goal

pub returns : goal.returns
returns c =
    let e = c.checked_told.ensures ∙ ap checked_told c.check_proof.ensures in record {
      value = e;
      book_checked = book-checked c.args.terms c.requires _ _ _
          (all-bytes c.args.input.now (λ i. omega (arith, c.shared_slice_known-1.given i)))
          (all-bytes c.args.proof.now (λ i. omega (arith, c.shared_slice_known-2-1.given i))) e;
    }
