-- `check::check_proof` meets its contract. Assumes nothing.
use mathlib.Core.Path.{◌≡◌, sym, ◌∙◌}
use mathlib.Core.Bool.{true, false}
use Rattle.problem_read.specs.Readable.{readable}
use Rattle.proof_check.specs.Called.{called-faulty, called-length, called-whole}
use borrow.Author.Rules.{rules}
use Rattle.proof_check.proofs.check.check_proof.Goals as goal

pub returns-then-not-whole_steps : goal.returns-then-not-whole_steps
returns-then-not-whole_steps c =
    let a = c.args in
    let t : c.whole_steps.result ≡ false = search rules in
    called-length a.terms a.input.now a.proof.now (readable a.input.now _ (sym c.read-s.ensures ∙ c.in-Sound.is))
    (sym c.whole_steps.ensures ∙ t)

pub check_readable-requires : goal.check_readable-requires
check_readable-requires c = readable c.args.input.now _ (sym c.read-s.ensures ∙ c.in-Sound.is)

pub returns-in-Fault : goal.returns-in-Fault
returns-in-Fault c =
    let a = c.args in
    called-faulty a.terms a.input.now a.proof.now _ _ (sym c.read-s.ensures ∙ c.in-Fault.is)

pub returns-else-not-whole_steps : goal.returns-else-not-whole_steps
returns-else-not-whole_steps c =
    let a = c.args in
    let t : c.whole_steps.result ≡ true = search rules in
    c.check_readable.ensures ∙ called-whole a.terms a.input.now a.proof.now (readable a.input.now _ (sym c.read-s.ensures ∙ c.in-Sound.is))
    (sym c.whole_steps.ensures ∙ t)
