-- `numerators::carried` meets its contract. Invariant: the first f numerators are within the range, kept in front of zeros, and `at` is the
-- place of the halves of variable f.
use Rattle.std.proofs.Common.{◌≡◌, length}
use Rattle.rules_types.specs.Limits as limit
use Rattle.models.specs.Model.{value}
use Rattle.kept_rationals.specs.Kept.{inside}
use Rattle.carrying_back.specs.Numerators.{CarriedTo}
use Rattle.carrying_back.proofs.numerators.carried.Given as goal

abbrev pub invariant-loop-f : goal.invariant-loop-f
invariant-loop-f l = (length l.out ≡ limit.rationals) × CarriedTo (inside l.mask) (value l.numerators) l.f l.at l.out
