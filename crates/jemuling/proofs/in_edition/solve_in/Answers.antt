-- `in_edition::solve_in` meets its contract: by what the number names. Assumes nothing.
use mathlib.Core.Path.{sym, ap, ◌∙◌}
use native.Mathlib.Omega.{arith}
use Rattle.rules.specs.Calls.{Solving}
use Rattle.theory_bytes.specs.Bytes.{all-bytes}
use Rattle.promises.specs.Editions.{solve-known, solve-unknown}
use Rattle.jemuling.specs.Told.{solved_told}
use Rattle.jemuling.specs.Kept.{delivered-in}
use Rattle.jemuling.proofs.in_edition.solve_in.Goals as goal

pub returns-in-Unknown : goal.returns-in-Unknown
returns-in-Unknown c =
    let is = sym (solve-unknown c.args.limits c.args.edition c.args.input.now c.args.proof.now
    c.args.model.now (sym c.named-named.ensures ∙ c.in-Unknown.is)) in
    let t = c.solved_told.ensures ∙ ap (λ (x : Solving). solved_told x.solved) is in
    let b = ap (λ (x : Solving). x.proof) is in
    let s = ap (λ (x : Solving). x.model) is in record {
      value = t;
      proof_after = b;
      model_after = s;
      delivered_in = delivered-in c.args.limits c.requires _ _ _ _ _ _ _
          (all-bytes c.args.input.now (λ i. omega (arith, c.shared_slice_known-1.given i)))
          (all-bytes c.args.proof.now (λ i. omega (arith, c.slice_known-1.given i)))
          (all-bytes c.args.model.now (λ i. omega (arith, c.slice_known-2-1.given i))) t b s;
    }

pub returns-in-Known : goal.returns-in-Known
returns-in-Known c =
    let is = sym (solve-known c.args.limits c.args.edition c.args.input.now c.args.proof.now
    c.args.model.now _ (sym c.named-named.ensures ∙ c.in-Known.is)) in
    let solved = c.solve_on.ensures in
    let promised = solved.delivered in
    let t = solved.value ∙ ap (λ (x : Solving). solved_told x.solved) is in
    let b = solved.proof_after ∙ ap (λ (x : Solving). x.proof) is in
    let s = solved.model_after ∙ ap (λ (x : Solving). x.model) is in record {
      value = t;
      proof_after = b;
      model_after = s;
      delivered_in = delivered-in c.args.limits c.requires _ _ _ _ _ _ _ promised.bytes promised.bytes_left.0
          promised.bytes_left.1 t b s;
    }
