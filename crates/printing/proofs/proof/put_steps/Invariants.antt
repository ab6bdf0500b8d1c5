-- `put_steps` meets its contract. Assumes nothing.
use Rattle.printing.specs.Room.{step_room}
use Rattle.printing.specs.Texts.{step_text, Making}
use Rattle.printing.proofs.proof.put_steps.Given as goal

abbrev pub invariant-loop-i : goal.invariant-loop-i
invariant-loop-i l = Making l.at step_room (step_text l.proof) l.initial.out l.out l.next l.i
