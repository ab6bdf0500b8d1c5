-- `in_edition::check_book_in` meets its contract: by what the number names. Assumes nothing.
use mathlib.Core.Path.{sym, ap, ◌∙◌}
use native.Mathlib.Omega.{arith}
use Rattle.theory_bytes.specs.Bytes.{all-bytes}
use Rattle.promises.specs.Editions.{proof-known, proof-unknown}
use Rattle.jemuling.specs.Told.{checked_told}
use Rattle.jemuling.specs.Kept.{book-checked-in}
use Rattle.jemuling.proofs.in_edition.check_book_in.Goals as goal

pub returns-in-Unknown : goal.returns-in-Unknown
returns-in-Unknown c =
    let e = c.checked_told.ensures ∙ ap checked_told (sym (proof-unknown c.args.limits c.args.edition
    c.args.input.now c.args.proof.now (sym c.named-named.ensures ∙ c.in-Unknown.is))) in record {
      value = e;
      book_checked_in = book-checked-in c.args.limits c.requires _ _ _ _
          (all-bytes c.args.input.now (λ i. omega (arith, c.shared_slice_known-1.given i)))
          (all-bytes c.args.proof.now (λ i. omega (arith, c.shared_slice_known-2-1.given i))) e;
    }

pub returns-in-Known : goal.returns-in-Known
returns-in-Known c =
    let e = c.check_book_on.ensures.value ∙ ap checked_told (sym (proof-known c.args.limits c.args.edition
    c.args.input.now c.args.proof.now _ (sym c.named-named.ensures ∙ c.in-Known.is))) in record {
      value = e;
      book_checked_in = book-checked-in c.args.limits c.requires _ _ _ _
          (all-bytes c.args.input.now (λ i. omega (arith, c.shared_slice_known-1.given i)))
          (all-bytes c.args.proof.now (λ i. omega (arith, c.shared_slice_known-2-1.given i))) e;
    }
