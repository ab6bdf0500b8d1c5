-- 01's rule for one variable more, of either kind.
use Rattle.std.specs.Prelude.{◌≡◌, not, List, ◌≤◌, T}
use Rattle.rules.specs.Meaning.{Assignment}
use Rattle.rules.specs.Lines.{Line, Variable, rational, boolean, line_holds, contains}
use Rattle.rules.specs.Values.{rational_value, boolean_value, with_boolean, assign}
use Rattle.theory_bounds.specs.Meets.{with-denominator}
use Rattle.theory_saturation.specs.Rule.{PairsHold, ContainersHold, Rule}
use Rattle.theory_saturation.specs.Gathered.{rational-sound}
use Rattle.theory_saturation.specs.Boolean.{boolean-keeps, boolean-enough}
use Rattle.theory_saturation.specs.Rational.{rational-keeps, rational-enough}

assign-denominator : (v : Variable) (ls : List Line) (χ : Assignment) → 1 ≤ χ.denominator → 1 ≤ (assign v ls χ).denominator
unfolding assign with_boolean
assign-denominator (rational f) ls χ z = with-denominator f (rational_value χ f ls) χ z (rational-sound χ z f ls)
assign-denominator (boolean i) ls χ z = z

assign-keeps : (v : Variable) (ls : List Line) (χ : Assignment) → 1 ≤ χ.denominator → (l : Line) → T (not (contains v l))
    → line_holds (assign v ls χ) l ≡ line_holds χ l
unfolding assign
assign-keeps (rational f) ls χ z l n = rational-keeps f χ z (rational_value χ f ls) (rational-sound χ z f ls) l n
assign-keeps (boolean i) ls χ z l n = boolean-keeps i (boolean_value χ i ls) χ l n

assign-enough : (v : Variable) (ls : List Line) (χ : Assignment) → 1 ≤ χ.denominator → PairsHold χ v ls
    → ContainersHold (assign v ls χ) v ls
unfolding assign
assign-enough (rational f) ls χ z ps = rational-enough f χ z ls ps
assign-enough (boolean i) ls χ z ps = boolean-enough i χ ls ps

pub assign-rule : Rule assign
assign-rule = record { denominator = assign-denominator; keeps = assign-keeps; enough = assign-enough }
