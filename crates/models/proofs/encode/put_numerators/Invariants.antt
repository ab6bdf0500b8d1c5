-- `put_numerators` meets its contract. Invariant: the first i numerators are stored. Assumes nothing.
use Rattle.std.proofs.Common.{◌≡◌, take}
use Rattle.rules.specs.Bytes.{amount_bytes}
use Rattle.fields.specs.Field.{stored}
use Rattle.models.proofs.encode.put_numerators.Given as goal

abbrev pub invariant-loop-i : goal.invariant-loop-i
invariant-loop-i l = l.s ≡ stored l.at (amount_bytes (take l.i l.numerators)) l.initial.s
