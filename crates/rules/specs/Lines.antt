-- A line's content, its variables, and when it holds: of one type for loaded parts, resolvents and what a proof states.
use Rattle.std.specs.Prelude.{Bool, true, false, not, ◌&&◌, ◌||◌, List, [], ◌∷◌, ℕ, suc, ℤ, pos, get_or, replicate, set}
use Rattle.std.proofs.Math.Option.{Option, none, some}
use Rattle.rules_types.specs.Limits as limit
use Rattle.rules.specs.Lists.{any}
use Rattle.rules.specs.Arithmetic.{is_positive, is_negative}
use Rattle.rules.specs.Problem.{Constraint}
use Rattle.rules.specs.Meaning.{Assignment, constraint_holds}

-- a set of Boolean variables, the problem's and the split variables: Boolean variable i is a member if place i says so
abbrev pub Booleans : Type 0
Booleans = List Bool

unfoldable pub no_booleans : Booleans
no_booleans = replicate limit.all_booleans false

unfoldable pub including : ℕ → Booleans → Booleans
including i s = set s i true

unfoldable pub excluding : ℕ → Booleans → Booleans
excluding i s = set s i false

unfoldable pub union : Booleans → Booleans → Booleans
union [] t = t
union (a ∷ s) [] = a ∷ s
union (a ∷ s) (b ∷ t) = (a || b) ∷ union s t

-- some Boolean variable is a member of both
unfoldable pub meet : Booleans → Booleans → Bool
meet [] t = false
meet (a ∷ s) [] = false
meet (a ∷ s) (b ∷ t) = a && b || meet s t

-- every member of the first is one of the second
unfoldable pub subset : Booleans → Booleans → Bool
subset [] t = true
subset (a ∷ s) [] = not a && subset s []
subset (a ∷ s) (b ∷ t) = (not a || b) && subset s t

-- positive Boolean variables, negative Boolean variables, and at most one constraint
pub record Line : Type 0 where
  pub positive : Booleans
  pub negative : Booleans
  pub constraint : Option Constraint

-- ---- when it holds
-- some member is yes under the assignment
unfoldable pub some_yes : Booleans → (ℕ → Bool) → Bool
some_yes [] assignment = false
some_yes (a ∷ s) assignment = a && assignment 0 || some_yes s (λ i. assignment (suc i))

unfoldable pub a_literal_holds : Assignment → Line → Bool
a_literal_holds χ l = some_yes l.positive χ.booleans || some_yes l.negative (λ i. not (χ.booleans i))

unfoldable pub the_constraint_holds : Assignment → Option Constraint → Bool
the_constraint_holds χ none = false
the_constraint_holds χ (some c) = constraint_holds χ c

unfoldable pub line_holds : Assignment → Line → Bool
line_holds χ l = a_literal_holds χ l || the_constraint_holds χ l.constraint

-- ---- its variables
-- a rational or a Boolean variable, by its number
pub data Variable : Type 0 where
  rational : ℕ → Variable
  boolean : ℕ → Variable

-- a rational variable's coefficient, 0 without a constraint
unfoldable pub coefficient : ℕ → Option Constraint → ℤ
coefficient f none = pos 0
coefficient f (some c) = get_or c.coefficients f (pos 0)

-- the line has it positive (a rational variable: an upper bound), negative, or either
unfoldable pub positively : Variable → Line → Bool
positively (rational f) l = is_positive (coefficient f l.constraint)
positively (boolean i) l = get_or l.positive i false

unfoldable pub negatively : Variable → Line → Bool
negatively (rational f) l = is_negative (coefficient f l.constraint)
negatively (boolean i) l = get_or l.negative i false

unfoldable pub contains : Variable → Line → Bool
contains v l = positively v l || negatively v l

-- ---- its form
-- "A line is empty if it has no literal and no condition."
unfoldable pub no_constraint : Option Constraint → Bool
no_constraint none = true
no_constraint (some c) = false

unfoldable pub is_empty : Line → Bool
is_empty l = not (any (λ a. a) l.positive) && not (any (λ a. a) l.negative) && no_constraint l.constraint
