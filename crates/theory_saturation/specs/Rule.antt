-- What a rule that gives one variable more its value must do.
use Rattle.std.specs.Prelude.{◌≡◌, not, List, ◌≤◌, T}
use Rattle.theory_lists.specs.All.{All}
use Rattle.rules.specs.Meaning.{Assignment}
use Rattle.rules.specs.Lines.{Line, Variable, line_holds, positively, negatively, contains}
use Rattle.rules.specs.Resolve.{resolvent}

-- of every upper and lower among the lines, the resolvent holds
abbrev pub PairsHold : Assignment → Variable → List Line → Type 0
PairsHold χ v ls = All (λ u. All (λ l. T (positively v u) → T (negatively v l) → T (line_holds χ (resolvent v u l))) ls) ls

-- every line that contains the variable holds
abbrev pub ContainersHold : Assignment → Variable → List Line → Type 0
ContainersHold χ v ls = All (λ l. T (contains v l) → T (line_holds χ l)) ls

-- the denominator stays at least 1, a line without the variable keeps its meaning, and where the resolvent of every pair holds, every
-- line with the variable comes to hold
pub record Rule (next : Variable → List Line → Assignment → Assignment) : Type 0 where
  pub denominator : (v : Variable) (ls : List Line) (χ : Assignment) → 1 ≤ χ.denominator → 1 ≤ (next v ls χ).denominator
  pub keeps : (v : Variable) (ls : List Line) (χ : Assignment) → 1 ≤ χ.denominator → (l : Line) → T (not (contains v l))
      → line_holds (next v ls χ) l ≡ line_holds χ l
  pub enough : (v : Variable) (ls : List Line) (χ : Assignment) → 1 ≤ χ.denominator → PairsHold χ v ls → ContainersHold (next v ls χ) v ls
