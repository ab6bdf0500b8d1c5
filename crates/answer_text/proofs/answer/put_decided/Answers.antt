-- `put_decided` meets its contract. Assumes nothing.
use mathlib.Core.Path.{subst}
use Rattle.rules.specs.Print.{ascii}
use Rattle.answer_text.specs.Answers.{Handed}
use Rattle.answer_text.proofs.answer.put_decided.Goals as goal

pub put_satisfiable-requires : goal.put_satisfiable-requires
put_satisfiable-requires c = record {
  printable = subst (λ v. Handed v c.args.n c.args.evidence.now) c.in-Satisfiable.is c.requires.handed;
  text_bytes_in_bounds = c.requires.text_bytes_in_bounds;
}

pub put_unsatisfiable-requires : goal.put_unsatisfiable-requires
put_unsatisfiable-requires c =
    let h = subst (λ v. Handed v c.args.n c.args.evidence.now) c.in-Unsatisfiable.is c.requires.handed in
    record { n_le_steps = h.0; n_in_bounds = h.1; text_bytes_in_bounds = c.requires.text_bytes_in_bounds }

pub returns-in-Satisfiable : goal.returns-in-Satisfiable
returns-in-Satisfiable c = rw c.in-Satisfiable.is c.put_satisfiable.ensures

pub returns-in-Unsatisfiable : goal.returns-in-Unsatisfiable
returns-in-Unsatisfiable c = rw c.in-Unsatisfiable.is c.put_unsatisfiable.ensures

pub returns-in-Unwritten : goal.returns-in-Unwritten
unfolding ascii
returns-in-Unwritten c = rw c.in-Unwritten.is c.put_counts.ensures.appended
