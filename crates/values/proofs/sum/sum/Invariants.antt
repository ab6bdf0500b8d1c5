-- `sum::sum` meets its contract. Invariant: the total and the terms from i on make the sum. Assumes nothing.
use Rattle.std.proofs.Common.{◌≡◌, ◌≤◌, ◌*◌, nat_abs, ◌+ℤ◌, length}
use Rattle.rules_types.specs.Limits as limit
use Rattle.rules.specs.Arithmetic.{sum}
use Rattle.models.specs.Model.{value}
use Rattle.values.specs.Terms.{terms_from}
use Rattle.values.proofs.sum.sum.Given as goal

abbrev pub invariant-loop-i : goal.invariant-loop-i
invariant-loop-i l = (length l.row ≡ limit.rationals) × (nat_abs l.total ≤ l.i * 1000000000000000000)
    × (l.total +ℤ terms_from l.row l.numerators l.i ≡ sum l.row (value l.numerators))
