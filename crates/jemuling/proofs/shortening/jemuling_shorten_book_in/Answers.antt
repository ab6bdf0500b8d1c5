-- `shortening::jemuling_shorten_book_in` meets its contract: by what the number names. Assumes nothing.
use mathlib.Core.Path.{sym, ap, ◌∙◌}
use native.Mathlib.Omega.{arith}
use Rattle.rules_types.specs.Limits.{standard}
use Rattle.rules.specs.Trim.{Trimming}
use Rattle.theory_bytes.specs.Bytes.{all-bytes}
use Rattle.promises.specs.Editions.{trim-known, trim-unknown}
use Rattle.jemuling.specs.Told.{trimmed_told}
use Rattle.jemuling.specs.Shortened.{book-shortened-in}
use Rattle.jemuling.proofs.shortening.jemuling_shorten_book_in.Goals as goal

pub returns-in-Unknown : goal.returns-in-Unknown
returns-in-Unknown c =
    let is = sym (trim-unknown standard c.args.edition c.args.input.now c.args.proof.now
    c.args.target.now (sym c.named-named.ensures ∙ c.in-Unknown.is)) in
    let t = c.trimmed_told.ensures ∙ ap (λ (x : Trimming). trimmed_told x.trimmed) is in
    let o = ap (λ (x : Trimming). x.target) is in record {
      value = t;
      target_after = o;
      book_shortened_in = book-shortened-in _ _ _ _ _
          (all-bytes c.args.input.now (λ i. omega (arith, c.shared_slice_known-1.given i)))
          (all-bytes c.args.proof.now (λ i. omega (arith, c.shared_slice_known-2-1.given i)))
          (all-bytes c.args.target.now (λ i. omega (arith, c.slice_known-1.given i))) standard (omega arith) _ t o;
    }

pub returns-in-Known : goal.returns-in-Known
returns-in-Known c =
    let is = sym (trim-known standard c.args.edition c.args.input.now c.args.proof.now
    c.args.target.now _ (sym c.named-named.ensures ∙ c.in-Known.is)) in
    let t = c.trimmed_told-in-Known.ensures ∙ ap trimmed_told c.trim.ensures.value ∙ ap (λ (x : Trimming). trimmed_told x.trimmed) is in
    let o = c.trim.ensures.target_after ∙ ap (λ (x : Trimming). x.target) is in record {
      value = t;
      target_after = o;
      book_shortened_in = book-shortened-in _ _ _ _ _
          (all-bytes c.args.input.now (λ i. omega (arith, c.shared_slice_known-1.given i)))
          (all-bytes c.args.proof.now (λ i. omega (arith, c.shared_slice_known-2-1.given i)))
          (all-bytes c.trim.new.target (λ i. omega (arith, c.slice_known-in-Known-1.given i))) standard (omega arith) _ t o;
    }
