-- `solve::solve_within` meets its contract: a law for each test. Assumes nothing.
use mathlib.Core.Path.{sym, ◌∙◌}
use native.Mathlib.Omega.{arith}
use Rattle.rules.specs.Calls.{read, solve}
use Rattle.theory_splitting.specs.Lent.{lent-short-proof, lent-short-model, lent-fault, lent-sound}
use Rattle.problem_read.specs.ScanOf.{scan_of-faulty}
use Rattle.problem_read.specs.Readable.{readable}
use Rattle.solving.specs.Leaves.{leaves-faulted}
use Rattle.rules_types.specs.declared.answers.Refusal.TheVariants.{ShortProof, ShortModel}
use Rattle.solving.proofs.solve.solve_within.Goals as goal

pub returns-then-proof-proof_bytes : goal.returns-then-proof-proof_bytes
unfolding solve
returns-then-proof-proof_bytes c =
    let a = c.args in
    let e = lent-short-proof a.terms a.input.now a.proof.now a.model.now (rw c.proof_bytes.ensures at c.if-proof-proof_bytes.true) in
    let t = leaves-faulted a.terms.limits ShortProof 0 a.proof.now a.model.now in
    record { value = c.faulted.ensures ∙ rw e t.0; proof_after = rw e t.1.0; model_after = rw e t.1.1 }

pub returns-then-model-lt-MODEL_BYTES : goal.returns-then-model-lt-MODEL_BYTES
unfolding solve
returns-then-model-lt-MODEL_BYTES c =
    let a = c.args in
    let e = lent-short-model a.terms a.input.now a.proof.now a.model.now (rw c.proof_bytes.ensures at c.if-proof-proof_bytes.false)
    c.if-model-lt-MODEL_BYTES.true in
    let t = leaves-faulted a.terms.limits ShortModel 0 a.proof.now a.model.now in
    record { value = c.faulted-then-model-lt-MODEL_BYTES.ensures ∙ rw e t.0; proof_after = rw e t.1.0; model_after = rw e t.1.1 }

pub decide-requires : goal.decide-requires
decide-requires c =
    let a = c.args in
    let h = rw c.proof_bytes.ensures at c.if-proof-proof_bytes.false in
    record {
      readable = readable a.input.now _ (sym c.read-s.ensures ∙ c.in-Sound.is);
      steps_in_bounds = omega (arith, h);
      model_bytes_in_bounds = c.if-model-lt-MODEL_BYTES.false;
      steps_le_most_steps = c.requires;
    }

pub returns-in-Fault : goal.returns-in-Fault
unfolding solve
returns-in-Fault c =
    let a = c.args in
    let f = scan_of-faulty (read a.input.now) _ _ (sym c.read-s.ensures ∙ c.in-Fault.is) in
    let e = lent-fault a.terms a.input.now a.proof.now a.model.now (rw c.proof_bytes.ensures at c.if-proof-proof_bytes.false)
    c.if-model-lt-MODEL_BYTES.false _ _ f in
    let t = leaves-faulted a.terms.limits c.in-Fault.f c.in-Fault.place a.proof.now a.model.now in
    record { value = c.faulted-in-Fault.ensures ∙ rw e t.0; proof_after = rw e t.1.0; model_after = rw e t.1.1 }

pub returns-in-Sound : goal.returns-in-Sound
unfolding solve
returns-in-Sound c =
    let a = c.args in
    let r = readable a.input.now _ (sym c.read-s.ensures ∙ c.in-Sound.is) in
    rw (lent-sound a.terms a.input.now a.proof.now a.model.now (rw c.proof_bytes.ensures at c.if-proof-proof_bytes.false)
    c.if-model-lt-MODEL_BYTES.false _ r.is_read) c.decide.ensures
