-- The walk backwards: a yes or no for each Boolean variable, a fraction for each rational variable.
use Rattle.std.specs.Prelude.{Bool, true, false, not, ◌&&◌, ◌||◌, List, [], ◌∷◌, ℕ, suc, ◌*◌, ◌/◌, ℤ, pos, negsuc, neg_ℤ, nat_abs, ◌+ℤ◌}
use Rattle.std.specs.Prelude.{◌-ℤ◌, ◌*ℤ◌, eqb, ltb, set}
use Rattle.std.proofs.Math.Option.{none, some}
use Rattle.std.specs.Int.Signed.{lt_z, quot_z}
use Rattle.rules_types.specs.Limits as limit
use Rattle.rules.specs.Lists.{any, filter, put}
use Rattle.rules.specs.Arithmetic.{gcd, lcm, sum}
use Rattle.rules.specs.Problem.{Constraint}
use Rattle.rules.specs.Meaning.{Assignment}
use Rattle.rules.specs.Lines.{excluding, Line, a_literal_holds, line_holds, Variable, rational, boolean, coefficient, positively}
use Rattle.rules.specs.Lines.{negatively}
use Rattle.rules.specs.Elimination.{round_of}

-- ---- fractions of any size, reduced
pub record Fraction : Type 0 where
  pub numerator : ℤ
  pub denominator : ℕ

-- n / d, for d of at least 1
unfoldable pub reduce : ℤ → ℕ → Fraction
reduce n d = let g = gcd (nat_abs n) d in record { numerator = quot_z n (pos g); denominator = d / g }

-- n / (a × d), for a other than 0
unfoldable pub quotient : ℤ → ℤ → ℕ → Fraction
quotient n (pos a) d = reduce n (a * d)
quotient n (negsuc a) d = reduce (neg_ℤ n) (suc a * d)

unfoldable pub less : Fraction → Fraction → Bool
less x y = lt_z (x.numerator *ℤ pos y.denominator) (y.numerator *ℤ pos x.denominator)

unfoldable pub midpoint : Fraction → Fraction → Fraction
midpoint x y = reduce (x.numerator *ℤ pos y.denominator +ℤ y.numerator *ℤ pos x.denominator) (2 * (x.denominator * y.denominator))

-- x plus a whole number
unfoldable pub plus : Fraction → ℤ → Fraction
plus x z = reduce (x.numerator +ℤ z *ℤ pos x.denominator) x.denominator

-- "numerator or denominator beyond 1,000,000,000 in size"
unfoldable pub beyond : Fraction → Bool
beyond x = ltb limit.amount (nat_abs x.numerator) || ltb limit.amount x.denominator

-- ---- the value rule
-- "There may be no bound on either side."
pub data Bound : Type 0 where
  absent : Bound
  present : Fraction → Bool → Bound

-- a gathered bound and the one so far, by an order in which the tighter comes first: "strict if any at that value is"
unfoldable pub tighter : (Fraction → Fraction → Bool) → Fraction → Bool → Bound → Bound
tighter before x s absent = present x s
tighter before x s (present y t) =
    elim (before x y) [ true ↦ present x s | false ↦ elim (before y x) [ true ↦ present y t | false ↦ present y (s || t) ] ]

-- "0 with neither; L if L exists and is not strict; else U if U exists and is not strict; else the midpoint with both; else L + 1
-- or U - 1"
unfoldable pub value : Bound → Bound → Fraction
value absent absent = record { numerator = pos 0; denominator = 1 }
value absent (present u false) = u
value absent (present u true) = plus u (negsuc 0)
value (present l false) U = l
value (present l true) absent = plus l (pos 1)
value (present l true) (present u false) = u
value (present l true) (present u true) = midpoint l u

-- ---- a rational variable
-- what a constraint bounds rational variable f by, the other rational variables as chosen: (bound - the other terms) / coefficient
unfoldable pub bound_of : Assignment → ℕ → Constraint → Fraction
bound_of χ f c =
    quotient (c.bound *ℤ pos χ.denominator -ℤ sum (set c.coefficients f (pos 0)) χ.numerators)
    (coefficient f (some c)) χ.denominator

pub record Gathered : Type 0 where
  pub at : Fraction
  pub strict : Bool

unfoldable pub bounds_of : Assignment → ℕ → List Line → List Gathered
bounds_of χ f [] = []
bounds_of χ f (l ∷ ls) =
    elim l.constraint [ none ↦ bounds_of χ f ls | some c ↦ record { at = bound_of χ f c; strict = c.strict } ∷ bounds_of χ f ls ]

-- "gather the bounds of its turn's lines in which nothing else holds", on one side
unfoldable pub gather : (Variable → Line → Bool) → Assignment → ℕ → List Line → List Gathered
gather side χ f ls = bounds_of χ f (filter (λ l. side (rational f) l && not (a_literal_holds χ l)) ls)

-- "L is the greatest lower, U the least upper"
unfoldable pub tightest : (Fraction → Fraction → Bool) → List Gathered → Bound
tightest before [] = absent
tightest before (g ∷ gs) = tighter before g.at g.strict (tightest before gs)

unfoldable pub rational_value : Assignment → ℕ → List Line → Fraction
rational_value χ f ls = value (tightest (λ x y. less y x) (gather negatively χ f ls)) (tightest less (gather positively χ f ls))

-- ---- a Boolean variable
-- "A mark is yes exactly if some line of its turn containing it positively has nothing else that holds."
unfoldable pub without_boolean : ℕ → Line → Line
without_boolean i l = record { positive = excluding i l.positive; negative = excluding i l.negative; constraint = l.constraint }

unfoldable pub boolean_value : Assignment → ℕ → List Line → Bool
boolean_value χ i ls = any (λ l. positively (boolean i) l && not (line_holds χ (without_boolean i l))) ls

-- ---- the assignment so far, with one variable more
-- all rational variables over their least common denominator
unfoldable pub with_rational : ℕ → Fraction → Assignment → Assignment
with_rational f x χ =
    let d = lcm χ.denominator x.denominator in
    record {
      booleans = χ.booleans;
      numerators = put f (x.numerator *ℤ pos (d / x.denominator)) (λ j. χ.numerators j *ℤ pos (d / χ.denominator));
      denominator = d;
    }

unfoldable pub with_boolean : ℕ → Bool → Assignment → Assignment
with_boolean i a χ = record { booleans = put i a χ.booleans; numerators = χ.numerators; denominator = χ.denominator }

unfoldable pub assign : Variable → List Line → Assignment → Assignment
assign (rational f) ls χ = with_rational f (rational_value χ f ls) χ
assign (boolean i) ls χ = with_boolean i (boolean_value χ i ls) χ

-- "a gathered bound or value, reduced, has numerator or denominator beyond"
unfoldable pub exceeds : Variable → List Line → Assignment → Bool
exceeds (rational f) ls χ =
    any (λ g. beyond g.at) (gather negatively χ f ls) || any (λ g. beyond g.at) (gather positively χ f ls)
    || beyond (rational_value χ f ls)
exceeds (boolean i) ls χ = false

-- ---- the walk
-- the assignment reached, and whether a gathered bound or a value was beyond
pub record Walked : Type 0 where
  pub assignment : Assignment
  pub exceeded : Bool

-- no Boolean variables yes, all rational variables 0
unfoldable pub start : Assignment
start = record { booleans = λ i. false; numerators = λ f. pos 0; denominator = 1 }

-- "turns are walked backwards": those from t on, of these variables, the last of them first
module _ (variables : List Variable) (lines : List Line) where
  unfoldable pub walk_from : ℕ → List Variable → Walked
  walk_from t [] = record { assignment = start; exceeded = false }
  walk_from t (v ∷ vs) =
      let w = walk_from (suc t) vs in
      let ls = filter (λ l. eqb (round_of variables l) t) lines in
      record { assignment = assign v ls w.assignment; exceeded = w.exceeded || exceeds v ls w.assignment }

  unfoldable pub walk : Walked
  walk = walk_from 0 variables
