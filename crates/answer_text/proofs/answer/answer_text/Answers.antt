-- `answer_text` meets its contract. Assumes nothing.
use mathlib.Core.Path.{sym, ◌∙◌}
use Prim.Native.Nat.{ℕ}
use native.Mathlib.Omega.{arith}
use lib.ListN.{replicate, length-replicate}
use lib.Seq.{length-take-le}
use Rattle.rules_types.specs.Limits as limit
use Rattle.rules_types.specs.Limits.{model_bytes, proof_bytes}
use Rattle.rules_types.specs.Terms.{standard}
use Rattle.rules.specs.Print.{printed}
use Rattle.printing.specs.Appended.{taken, within}
use Rattle.answer_text.specs.Printed.{TextOf, solved-told}
use Rattle.answer_text.proofs.answer.answer_text.Goals as goal
use Rattle.answer_text.proofs.answer.answer_text.Goals.{After-solve_within-solved}

told : (b : After-solve_within-solved) → let w = b.solve_within-solved in
    TextOf (printed standard b.args.input.now) w.result w.new.proof w.new.model
told b =
    let w = b.solve_within-solved in
    let e = rw b.standard.ensures at w.ensures in
    let k = w.auto in
    let proof = length-replicate {A = ℕ} (proof_bytes limit.standard) 0 in
    let model = length-replicate {A = ℕ} model_bytes 0 in
    solved-told (replicate (proof_bytes limit.standard) 0) (replicate model_bytes 0) b.args.input.now proof model w.result
    w.new.proof w.new.model e.value e.proof_after e.model_after (k.proof ∙ proof) (k.model ∙ model)

pub solve_within-solved-requires : goal.solve_within-solved-requires
solve_within-solved-requires c = rw c.standard.ensures (omega arith)

pub put_solved-requires-clause-ready : goal.put_solved-requires-clause-ready
put_solved-requires-clause-ready c = (told (goal.at.put_solved-requires-clause-ready c).After-solve_within-solved).ready

pub returns : goal.returns
returns c =
    let a = c.put_solved.ensures in
    let k = c.put_solved.result in
    let bytes = c.put_solved.new.out in
    record {
      out_after = taken a ∙ (told (goal.at.returns c).After-solve_within-solved).is;
      prefix_len = (within a, sym (length-take-le k bytes (within a)));
    }
