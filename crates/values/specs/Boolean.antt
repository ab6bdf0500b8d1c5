-- What one line makes of a Boolean variable.
use Rattle.std.specs.Prelude.{◌≡◌, Bool, not, ◌&&◌, List, ℕ, eqb}
use Rattle.std.proofs.Common.{sym}
use Rattle.rules.specs.Lists.{any}
use Rattle.rules.specs.Meaning.{Assignment}
use Rattle.rules.specs.Lines.{Line, line_holds, Variable, boolean, positively}
use Rattle.rules.specs.Elimination.{round_of}
use Rattle.rules.specs.Values.{without_boolean, boolean_value}
use Rattle.lines.specs.Order.{boolean_round}
use Rattle.values.specs.Round.{own, any-filter}

-- of its round, with it positive, and nothing else that holds
unfoldable pub forces : List Variable → Assignment → ℕ → Line → Bool
forces variables χ i l = eqb (round_of variables l) (boolean_round i)
    && (positively (boolean i) l && not (line_holds χ (without_boolean i l)))

pub value-is : (variables : List Variable) (χ : Assignment) (i : ℕ) (ls : List Line)
    → any (forces variables χ i) ls ≡ boolean_value χ i (own variables (boolean_round i) ls)
unfolding boolean_value forces
value-is variables χ i ls = sym (any-filter (λ l. positively (boolean i) l && not (line_holds χ (without_boolean i l)))
    (λ l. eqb (round_of variables l) (boolean_round i)) ls)
