-- `booleans::booleans` meets its contract. Invariant: the first i bytes are as they must be, and those that are 1 are members.
use Rattle.masks.specs.Mask.{outside}
use Rattle.models.specs.Booleans.{FlagsTo}
use Rattle.models.proofs.booleans.booleans.Given as goal

abbrev pub invariant-loop-i : goal.invariant-loop-i
invariant-loop-i l = FlagsTo l.s l.from (outside l.occurring) l.i l.mask
