-- What the code's fractions and bounds mean in the definitions.
use Rattle.std.specs.Prelude.{Bool, Option, None, Some}
use Rattle.rules.specs.Values as rules
use Rattle.rules.specs.Values.{less, absent, present}
use Rattle.fractions.specs.declared.fraction.Fraction.{Fraction}
use Rattle.fractions.specs.declared.bound.Bound.{Bound}
use Rattle.fractions.specs.declared.bound.Side.{Side}
use Rattle.fractions.specs.declared.bound.Side.TheVariants.{Lower, Upper}

abbrev pub meaning : Fraction → rules.Fraction
meaning x = record { numerator = x.numerator; denominator = x.denominator }

abbrev pub bound_meaning : Option Bound → rules.Bound
bound_meaning None = absent
bound_meaning (Some b) = present (meaning b.at) b.strict

-- the order in which the tighter bound comes first, of lower or of upper bounds
abbrev pub precedes : Side → rules.Fraction → rules.Fraction → Bool
precedes Lower x y = less y x
precedes Upper x y = less x y
