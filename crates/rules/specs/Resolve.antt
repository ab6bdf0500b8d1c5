-- The resolvent of a pair (its "result"), by a rational variable (Fourier-Motzkin) or by a Boolean variable (Davis-Putnam).
use Rattle.std.specs.Prelude.{◌||◌, ℕ, pos, nat_abs, ◌+ℤ◌, ◌*ℤ◌}
use Rattle.std.proofs.Math.Option.{Option, none, some}
use Rattle.rules.specs.Arithmetic.{combine}
use Rattle.rules.specs.Problem.{Constraint}
use Rattle.rules.specs.Lines.{union, excluding, Line, Variable, rational, boolean, coefficient}
use Rattle.rules.specs.Normalize.{normal_line}

-- "c × upper + a × lower, where a is the upper's coefficient and c the size of the lower's; < if either is <"
unfoldable pub combination : ℕ → Constraint → Constraint → Constraint
combination f u l =
    let a = coefficient f (some u) in
    let c = pos (nat_abs (coefficient f (some l))) in
    record {
      strict = u.strict || l.strict;
      coefficients = combine c u.coefficients a l.coefficients;
      bound = c *ℤ u.bound +ℤ a *ℤ l.bound;
    }

unfoldable pub combination_of : ℕ → Option Constraint → Option Constraint → Option Constraint
combination_of f none l = none
combination_of f (some u) none = none
combination_of f (some u) (some l) = some (combination f u l)

-- "the condition where one line has one (in the course neither does)"; of two the first, which no elimination and no check comes to
unfoldable pub one_of : Option Constraint → Option Constraint → Option Constraint
one_of none l = l
one_of (some u) l = some u

-- before it is normalized: "both lines' literals"; "the literals of both without it"
unfoldable pub resolvent : Variable → Line → Line → Line
resolvent (rational f) u l =
    record {
      positive = union u.positive l.positive;
      negative = union u.negative l.negative;
      constraint = combination_of f u.constraint l.constraint;
    }
resolvent (boolean i) u l =
    record {
      positive = excluding i (union u.positive l.positive);
      negative = excluding i (union u.negative l.negative);
      constraint = one_of u.constraint l.constraint;
    }

-- "The result is tidied"; none where that drops it
unfoldable pub resolve : Variable → Line → Line → Option Line
resolve v u l = normal_line (resolvent v u l)
