-- `put_flags` meets its contract. Assumes nothing.
use Rattle.printing.specs.Room.{number_room}
use Rattle.printing.specs.Texts.{flag_text, Making}
use Rattle.printing.proofs.model.put_flags.Given as goal

abbrev pub invariant-loop-i : goal.invariant-loop-i
invariant-loop-i l = Making l.at number_room (flag_text l.model) l.initial.out l.out l.next l.i
