-- `put_unsatisfiable` meets its contract. Assumes nothing.
use native.Mathlib.Omega.{arith}
use Rattle.rules.specs.Print.{ascii}
use Rattle.printing.specs.Appended.{appended-++}
use Rattle.answer_text.proofs.answer.put_unsatisfiable.Goals as goal

pub returns : goal.returns
unfolding ascii
returns c =
    appended-++ (omega arith) c.put_counts-next.ensures.appended c.put_proof.ensures.appended
