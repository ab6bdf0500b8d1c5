-- `numerators::numerators` meets its contract. Invariant: the first i numerators are amounts, kept in front of zeros.
use Rattle.std.proofs.Common.{◌≡◌, length}
use Rattle.rules_types.specs.Limits as limit
use Rattle.models.specs.Numerators.{RowTo}
use Rattle.models.proofs.numerators.numerators.Given as goal

abbrev pub invariant-loop-i : goal.invariant-loop-i
invariant-loop-i l = (length l.out ≡ limit.rationals) × RowTo l.s l.from l.i l.out
