-- `put_booleans` meets its contract. Invariant: the first i bytes are stored. Assumes nothing.
use Rattle.std.proofs.Common.{◌≡◌}
use Rattle.rules.specs.Lists.{tabulate}
use Rattle.fields.specs.Field.{stored}
use Rattle.models.specs.Encoded.{flag_byte}
use Rattle.models.proofs.encode.put_booleans.Given as goal

abbrev pub invariant-loop-i : goal.invariant-loop-i
invariant-loop-i l = l.s ≡ stored 1 (tabulate l.i (flag_byte l.mask l.occurring)) l.initial.s
