-- The elimination ("the course"): loading, then a round ("turn") for each variable, to its end or to the first event that ends it.
use Rattle.std.specs.Prelude.{Bool, true, false, not, ◌&&◌, ◌||◌, List, [], ◌∷◌, ◌++◌, map, ℕ, zero, suc, ◌+◌, ◌*◌, ℤ, pos, ◌-ℤ◌, eqb, leb}
use Rattle.std.specs.Prelude.{length, drop}
use Rattle.std.proofs.Math.Option.{Option, none, some}
use Rattle.std.specs.Int.Signed.{lt_z}
use Rattle.rules_types.specs.declared.limits.Limits.{Limits}
use Rattle.rules_types.specs.Limits as limit
use Rattle.rules.specs.Lists.{any, filter, same, tabulate}
use Rattle.rules.specs.Arithmetic.{equal}
use Rattle.rules.specs.Problem.{Constraint, Clause, Problem, in_range}
use Rattle.rules.specs.Lines.{Line, Variable, rational, boolean, positively, negatively, contains, is_empty, subset}
use Rattle.rules.specs.Split.{parts_of, splits_of}
use Rattle.rules.specs.Resolve.{resolve}
use Rattle.rules.specs.Steps.{Step, loaded, resolved, row}

-- ---- rounds
-- the variables in the order of their rounds: these rational variables, then the Boolean ones. "Turn numbers run from 0 to 39: turns 0 to 7
-- belong to the figures and 8 to 39 to the marks."
unfoldable pub order_by : List ℕ → List Variable
order_by rationals = map rational rationals ++ tabulate limit.all_booleans boolean

-- of the first n rational variables those not taken, by their numbers
unfoldable pub remaining : ℕ → List ℕ → List ℕ
remaining n taken = filter (λ f. not (any (eqb f) taken)) (tabulate n (λ f. f))

-- the order of a run that took these rational variables: the others follow by their numbers
unfoldable pub rationals_after : List ℕ → List ℕ
rationals_after taken = taken ++ remaining limit.rationals taken

unfoldable pub order_after : List ℕ → List Variable
order_after taken = order_by (rationals_after taken)

-- "A line belongs to the earliest turn whose figure or mark it contains"; one that contains none, to none of them
unfoldable pub round_of : List Variable → Line → ℕ
round_of [] l = 0
round_of (v ∷ vs) l = elim (contains v l) [ true ↦ 0 | false ↦ suc (round_of vs l) ]

-- ---- what may end the elimination
-- a test of a resolvent's amounts and of the count of lines held
pub record Stops : Type 0 where
  pub at_line : Line → Bool
  pub at_steps : ℕ → Bool

-- "wide if an amount exceeds 1,000,000,000 in size"
unfoldable pub overflows : Line → Bool
overflows l = any (λ z. not (in_range z)) (row l.constraint)

-- a line is too many where the N lines of the limits are held already
unfoldable pub limited : Limits → Stops
limited limits = record { at_line = overflows; at_steps = λ held. leb limits.steps held }

-- "without limits on lines or amounts"
unfoldable pub unlimited : Stops
unlimited = record { at_line = λ l. false; at_steps = λ held. false }

-- "The first empty line, wide result or line too many ends the course."
pub data End : Type 0 where
  empty overflow out_of_steps : End

-- the elimination at a point: the lines held and the pairs tried, and whether it has ended there
pub data State : Type 0 where
  running : List Step → ℕ → State
  ended : End → List Step → ℕ → State

-- an elimination at a point with the rational variables that it took, in order
pub record Run : Type 0 where
  pub taken : List ℕ
  pub state : State

-- ---- one line more
-- overflowing, dropped by an earlier line, one too many ("full"), empty: the first of them that is true decides
unfoldable pub placed : Bool → Bool → Bool → Bool → Step → List Step → ℕ → State
placed true subsumed many blank s steps n = ended overflow steps n
placed false true many blank s steps n = running steps n
placed false false true blank s steps n = ended out_of_steps steps n
placed false false false true s steps n = ended empty (steps ++ (s ∷ [])) n
placed false false false false s steps n = running (steps ++ (s ∷ [])) n

-- "either no condition, or equal coefficients with a bound that is smaller, or equal under a relation at least as strict"
unfoldable pub as_tight : Option Constraint → Option Constraint → Bool
as_tight none d = true
as_tight (some c) none = false
as_tight (some c) (some d) = same equal c.coefficients d.coefficients
    && (lt_z c.bound d.bound || equal c.bound d.bound && (c.strict || not d.strict))

-- which earlier line drops it: one that "has a subset of its literals in each sign" and is as tight; one that equals it does
unfoldable pub drops : Line → Line → Bool
drops earlier l = subset earlier.positive l.positive && subset earlier.negative l.negative
    && as_tight earlier.constraint l.constraint

-- one of these lines does
unfoldable pub covered : Line → List Step → Bool
covered l steps = any (λ s. drops s.line l) steps

-- ---- a round's pairs
-- a line with its number in the proof
pub record Numbered : Type 0 where
  pub number : ℕ
  pub line : Line

pub record Pair : Type 0 where
  pub upper : Numbered
  pub lower : Numbered

-- the lines that pass a test, numbered from n on
unfoldable pub select : (Line → Bool) → ℕ → List Step → List Numbered
select test n [] = []
select test n (s ∷ ss) =
    elim (test s.line) [ true ↦ record { number = n; line = s.line } ∷ select test (suc n) ss | false ↦ select test (suc n) ss ]

-- "paired, in line order, with the lines with it negative, the inner loop"
unfoldable pub pair_up : List Numbered → List Numbered → List Pair
pair_up [] ls = []
pair_up (u ∷ us) ls = map (λ l. record { upper = u; lower = l }) ls ++ pair_up us ls

-- round t's pairs: "its lines with it positive (upper bounds) are paired ... with the lines with it negative"
unfoldable pub side_of : (Variable → Line → Bool) → List Variable → Variable → ℕ → List Step → List Numbered
side_of side variables v t steps = select (λ l. side v l && eqb (round_of variables l) t) 0 steps

unfoldable pub round_pairs : List Variable → Variable → ℕ → List Step → List Pair
round_pairs variables v t steps = pair_up (side_of positively variables v t steps) (side_of negatively variables v t steps)

-- ---- the rational variable of a round
-- "among the lines without a figure already taken"
unfoldable pub without : List ℕ → Line → Bool
without taken l = not (any (λ f. contains (rational f) l) taken)

-- the uppers of rational variable f among them, or its lowers
unfoldable pub count : (Variable → Line → Bool) → List ℕ → List Step → ℕ → ℕ
count side taken steps f = length (filter (λ s. without taken s.line && side (rational f) s.line) steps)

-- "U × L - U - L", which may be below 0
unfoldable pub cost_of : ℕ → ℕ → ℤ
cost_of u l = pos (u * l) -ℤ pos u -ℤ pos l

unfoldable pub cost : List ℕ → List Step → ℕ → ℤ
cost taken steps f = cost_of (count positively taken steps f) (count negatively taken steps f)

-- "the least ..., ties to the lower number": of f and those behind it, one behind only if it costs less
unfoldable pub cheapest : (ℕ → ℤ) → ℕ → List ℕ → ℕ
cheapest price f [] = f
cheapest price f (g ∷ gs) = elim (lt_z (price g) (price f)) [ true ↦ cheapest price g gs | false ↦ cheapest price f gs ]

-- "take the remaining figure", of r figures; where none remains, none is asked for
unfoldable pub pick : ℕ → List ℕ → List Step → ℕ
pick r taken steps = elim (remaining r taken) [ [] ↦ 0 | f ∷ fs ↦ cheapest (cost taken steps) f fs ]

-- ---- loading
-- the parts of clause c, from part p on
unfoldable pub part_steps : ℕ → ℕ → List Line → List Step
part_steps c p [] = []
part_steps c p (l ∷ ls) = record { origin = loaded c p; line = l } ∷ part_steps c (suc p) ls

-- the parts of all clauses, in order, from clause c and split variable k on
unfoldable pub loadable : ℕ → ℕ → List Clause → List Step
loadable c k [] = []
loadable c k (x ∷ xs) = part_steps c 0 (parts_of k x) ++ loadable (suc c) (k + splits_of x) xs

-- "links, new marks numbered from b upward in clause order"
unfoldable pub loadable_of : Problem → List Step
loadable_of p = loadable 0 p.booleans p.clauses

-- ---- the elimination
module _ (stops : Stops) where
  -- a line put to the tests; that it overflows ("wide") is asked of resolvents alone
  unfoldable pub add : Bool → Step → List Step → ℕ → State
  add overflowing s steps n = placed overflowing (covered s.line steps) (stops.at_steps (length steps)) (is_empty s.line) s steps n

  -- "Pieces load in order." "Loading does the same": an earlier line drops a part too
  unfoldable pub load : List Step → State → State
  load [] state = state
  load (s ∷ ss) (ended e steps n) = ended e steps n
  load (s ∷ ss) (running steps n) = load ss (add false s steps n)

  -- a pair's resolvent: dropped by normalizing, or put to the tests; the pair counts either way
  unfoldable pub tried : Variable → Pair → Option Line → List Step → ℕ → State
  tried v p none steps n = running steps n
  tried v p (some l) steps n =
      add (stops.at_line l) (record { origin = resolved v p.upper.number p.lower.number; line = l }) steps n

  unfoldable pub try_all : Variable → List Pair → State → State
  try_all v [] state = state
  try_all v (p ∷ ps) (ended e steps n) = ended e steps n
  try_all v (p ∷ ps) (running steps n) = try_all v ps (tried v p (resolve v p.upper.line p.lower.line) steps (suc n))

  -- the rounds from t on, of these variables; `variables` is the whole order
  unfoldable pub rounds : List Variable → ℕ → List Variable → State → State
  rounds variables t [] state = state
  rounds variables t (v ∷ vs) (ended e steps n) = ended e steps n
  rounds variables t (v ∷ vs) (running steps n) = rounds variables (suc t) vs
      (try_all v (round_pairs variables v t steps) (running steps n))

  -- in a given order
  unfoldable pub eliminate : List Variable → List Step → State
  eliminate variables parts = rounds variables 0 variables (load parts (running [] 0))

  -- "At each figure turn": k such rounds, of r rational variables, behind those of `taken`
  unfoldable pub chosen_rounds : ℕ → ℕ → List ℕ → State → Run
  chosen_rounds r zero taken state = record { taken = taken; state = state }
  chosen_rounds r (suc k) taken (ended e steps n) = record { taken = taken; state = ended e steps n }
  chosen_rounds r (suc k) taken (running steps n) =
      let f = pick r taken steps in
      let next = taken ++ (f ∷ []) in
      chosen_rounds r k next (try_all (rational f) (round_pairs (order_after next) (rational f) (length taken) steps) (running steps n))

  -- "Marks follow as before": the rounds behind the r rational variables, in the order taken
  unfoldable pub other_rounds : ℕ → Run → State
  other_rounds r run = let variables = order_after run.taken in rounds variables r (drop r variables) run.state

-- a problem's elimination
unfoldable pub chosen_run : Stops → Problem → Run
chosen_run stops p = chosen_rounds stops p.rationals p.rationals [] (load stops (loadable_of p) (running [] 0))

unfoldable pub elimination : Stops → Problem → State
elimination stops p = other_rounds stops p.rationals (chosen_run stops p)

-- its order, "kept with the run": without limits, since what a limited one takes is the same to its end
unfoldable pub order_of : Problem → List Variable
order_of p = order_after (chosen_run unlimited p).taken
