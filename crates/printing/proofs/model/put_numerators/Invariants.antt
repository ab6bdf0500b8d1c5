-- `put_numerators` meets its contract. Assumes nothing.
use Rattle.printing.specs.Room.{rational_room}
use Rattle.printing.specs.Texts.{numerator_text, Making}
use Rattle.printing.proofs.model.put_numerators.Given as goal

abbrev pub invariant-loop-i : goal.invariant-loop-i
invariant-loop-i l = Making l.at rational_room (numerator_text l.model l.b) l.initial.out l.out l.next l.i
