-- `put_solved` meets its contract. Assumes nothing.
use mathlib.Core.Path.{◌≡◌, sym, subst, ◌∙◌}
use Rattle.rules_types.specs.Limits.{standard}
use Rattle.rules_types.specs.Answers.{verdict_number}
use Rattle.handing_back.specs.Evidence.{handed_back}
use Rattle.answer_text.specs.Answers.{Handed, ReadyAnswer}
use Rattle.answer_text.proofs.answer.put_solved.Goals as goal
use Rattle.answer_text.proofs.answer.put_solved.Goals.{After-hand_back-evidence}

-- the part that is handed back
handed : (b : After-hand_back-evidence)
    → b.hand_back-evidence.result.now
    ≡ handed_back standard (verdict_number b.in-Decided.v) b.in-Decided.n b.args.proof.now b.args.model.now
handed b =
    b.hand_back-evidence.ensures
    ∙ (λ i. handed_back (b.standard.ensures i) (b.verdict_number.ensures i) b.in-Decided.n b.args.proof.now b.args.model.now)

pub put_decided-requires : goal.put_decided-requires
put_decided-requires c =
    let h = handed (goal.at.put_decided-requires c).After-hand_back-evidence in
    record {
      handed = subst (Handed c.in-Decided.v c.in-Decided.n) (sym h)
          (subst (λ y. ReadyAnswer y c.args.proof.now c.args.model.now) c.in-Decided.is c.requires.ready);
      text_bytes_in_bounds = c.requires.text_bytes_in_bounds;
    }

pub returns-in-Decided : goal.returns-in-Decided
returns-in-Decided c =
    rw (c.in-Decided.is, ← handed (goal.at.returns-in-Decided c).After-hand_back-evidence) c.put_decided.ensures

pub returns-in-Refused : goal.returns-in-Refused
returns-in-Refused c =
    rw c.in-Refused.is c.put_refusal.ensures.appended
