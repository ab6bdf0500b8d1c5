-- `evidence::refused` meets its contract: the first test that fails decides. Assumes nothing.
use mathlib.Core.Path.{sym}
use borrow.Author.Tests.{lt-ltb, le-ltb}
use lib.ListN.{length}
use Rattle.rules_types.specs.Limits as limit
use Rattle.handing_back.specs.Evidence.{refused}
use Rattle.handing_back.proofs.evidence.refused.Goals as goal

pub returns-then-proof-proof_bytes : goal.returns-then-proof-proof_bytes
unfolding refused
returns-then-proof-proof_bytes c =
    sym (rw (lt-ltb (length c.args.proof.now) (limit.proof_bytes c.args.limits) (rw c.proof_bytes.ensures at c.if-proof-proof_bytes.true)))

pub returns-then-model-lt-MODEL_BYTES : goal.returns-then-model-lt-MODEL_BYTES
unfolding refused
returns-then-model-lt-MODEL_BYTES c =
    sym (rw (
      le-ltb (length c.args.proof.now) (limit.proof_bytes c.args.limits)
          (rw c.proof_bytes.ensures at c.if-proof-proof_bytes.false),
      lt-ltb (length c.args.model.now) limit.model_bytes c.if-model-lt-MODEL_BYTES.true,
    ))

pub returns : goal.returns
unfolding refused
returns c =
    sym (rw (
      le-ltb (length c.args.proof.now) (limit.proof_bytes c.args.limits)
          (rw c.proof_bytes.ensures at c.if-proof-proof_bytes.false),
      le-ltb (length c.args.model.now) limit.model_bytes c.if-model-lt-MODEL_BYTES.false,
    ))
