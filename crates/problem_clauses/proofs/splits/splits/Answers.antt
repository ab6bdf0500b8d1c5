-- `splits::splits` meets its contract: there is at most one comparison, the literals clash, or the constraints that stay are counted in
use mathlib.Core.Path.{◌≡◌, sym, ap, ◌∙◌}
use mathlib.Core.Bool.{Bool, true, false}
use mathlib.Core.List.{List}
use native.Mathlib.Omega.{arith}
use Prim.Native.Nat.{ℕ, ◌+◌, ◌≤◌, ◌<◌}
use lib.ListN.{length, get_or}
use Rattle.rules.specs.Normalize.{settled_all}
use Rattle.rules.specs.Problem.{Clause}
use Rattle.rules.specs.Readings.{reading, has_equality}
use Rattle.rules.specs.Split.{reading_splits, splits_of}
use Rattle.rules_types.specs.Limits.{all_booleans}
use Rattle.rules_types.specs.Layout.{comparison_bytes}
use Rattle.rules.specs.Lines.{meet}
use Rattle.masks.specs.Mask.{bits}
use Rattle.theory_splitting.specs.Twice.{splits-once, splits-twice}
use Rattle.theory_splitting.specs.Few.{splits-few}
use Rattle.problem_scan.specs.Values.{behind, comparison_at, comparisons_at, constraints_at, count_of, clause_at}
use Rattle.problem_clauses.specs.declared.splits.Staying.{Staying}
use Rattle.problem_clauses.specs.Passes.{length-values}
use Rattle.problem_clauses.specs.Walk.{count-within, clause-within, literals-within, constraints-within}
use Rattle.problem_clauses.specs.Remaining.{counted}
use Rattle.problem_clauses.specs.Splits.{splits_by, splits-at, splits-clash}
use Rattle.problem_clauses.proofs.splits.splits.Goals as goal
use Rattle.problem_clauses.proofs.splits.splits.Goals.{After-between-first, After-count_place-place, After-literals-l}

pub count_place-place-requires : goal.count_place-place-requires
count_place-place-requires c = count-within c.args.input.now c.args.r c.args.at c.requires

-- the clause, and where its count of comparisons stands
module _ (c : After-count_place-place) where
  abbrev q : List ℕ
  q = c.args.input.now

  abbrev here : Clause
  here = clause_at q c.args.r c.args.at

  abbrev place : ℕ
  place = c.count_place-place.result

  place-within : place < length q
  place-within = omega (arith, count-within q c.args.r c.args.at c.requires, c.count_place-place.ensures)

  -- its comparisons are in the slice, and as many as the count says
  all-within : behind (comparison_bytes c.args.r) (get_or q place 0) (place + 1) ≤ length q
  all-within = constraints-within q c.args.r c.args.at c.requires place c.count_place-place.ensures

  many : length here.comparisons ≡ get_or q place 0
  unfolding clause_at
  many =
      length-values (comparison_at q c.args.r) (comparison_bytes c.args.r) (get_or q (count_of q c.args.at) 0) _
      ∙ ap (λ (p : ℕ). get_or q p 0) (sym c.count_place-place.ensures)

  -- whether there are two readings
  twice-is : (t : Bool) → t ≡ has_equality (comparisons_at q c.args.r (get_or q place 0) (place + 1))
      → t ≡ has_equality here.comparisons
  unfolding clause_at
  twice-is t e =
      e ∙ ap (λ (p : ℕ). has_equality (comparisons_at q c.args.r (get_or q p 0) (p + 1))) c.count_place-place.ensures

pub bounds-input-place : goal.bounds-input-place
bounds-input-place c = place-within (goal.at.bounds-input-place c).After-count_place-place

pub returns-then-count-lt2 : goal.returns-then-count-lt2
returns-then-count-lt2 c = omega (
  arith,
  splits-few (here (goal.at.returns-then-count-lt2 c).After-count_place-place) 1
      (omega (arith, many (goal.at.returns-then-count-lt2 c).After-count_place-place, c.if-count-lt2.true)),
)

pub overflow_add-at : goal.overflow_add-at
overflow_add-at c = omega (arith, clause-within c.args.input.now c.args.r c.args.at c.requires, c.well_formed)

pub bounds-input-at : goal.bounds-input-at
bounds-input-at c = omega (arith, clause-within c.args.input.now c.args.r c.args.at c.requires)

pub literals-l-requires : goal.literals-l-requires
literals-l-requires c =
    literals-within c.args.input.now c.args.r c.args.at c.requires

-- its literals
module _ (c : After-literals-l) where
  abbrev clash : Bool
  clash = meet (bits all_booleans c.literals-l.result.positive) (bits all_booleans c.literals-l.result.negative)

  none_of : clash ≡ true → splits_of (here (goal.at.After-literals-l c).After-count_place-place) ≡ 0
  none_of e = splits-clash (q (goal.at.After-literals-l c).After-count_place-place) c.args.r c.args.at c.literals-l.result.positive
      c.literals-l.result.negative c.literals-l.ensures.positive c.literals-l.ensures.negative e

  -- the split variables of a reading, by the constraints that stay
  known : clash ≡ false → (second : Bool) (k : Staying)
      → k ≡ counted 0 (settled_all (constraints_at (q (goal.at.After-literals-l c).After-count_place-place) second c.args.r
      (get_or (q (goal.at.After-literals-l c).After-count_place-place) (place (goal.at.After-literals-l c).After-count_place-place) 0)
      (place (goal.at.After-literals-l c).After-count_place-place + 1)))
      → (n : ℕ) → n ≡ splits_by false k → n ≡ reading_splits (reading second (here (goal.at.After-literals-l c).After-count_place-place))
  known e second k i n h =
      h ∙ ap (splits_by false) i
      ∙ sym
      (splits-at
      (q (goal.at.After-literals-l c).After-count_place-place) c.args.r c.args.at c.literals-l.result.positive c.literals-l.result.negative
      c.literals-l.ensures.positive c.literals-l.ensures.negative second false
      (place (goal.at.After-literals-l c).After-count_place-place) e c.count_place-place.ensures)

pub returns-then-meets : goal.returns-then-meets
returns-then-meets c = sym (none_of (goal.at.returns-then-meets c).After-literals-l (sym c.meets.ensures ∙ c.if-meets.true))

pub overflow_add-from : goal.overflow_add-from
overflow_add-from c = omega (arith, place-within (goal.at.overflow_add-from c).After-count_place-place, c.well_formed)

pub remaining-requires : goal.remaining-requires
remaining-requires c = all-within (goal.at.remaining-requires c).After-count_place-place

-- the first reading's
first-is : (c : After-between-first) → c.between-first.result ≡ reading_splits
    (reading false (here (goal.at.After-between-first c).After-count_place-place))
first-is c =
    known (goal.at.After-between-first c).After-literals-l (sym c.meets.ensures
    ∙ c.if-meets.false) false c.remaining.result c.remaining.ensures
    c.between-first.result c.between-first.ensures

pub has_equality-requires : goal.has_equality-requires
has_equality-requires c = all-within (goal.at.has_equality-requires c).After-count_place-place

pub returns-then-not-has_equality : goal.returns-then-not-has_equality
returns-then-not-has_equality c =
    first-is (goal.at.returns-then-not-has_equality c).After-between-first
    ∙ sym (splits-once (here (goal.at.returns-then-not-has_equality c).After-count_place-place)
    (sym (twice-is (goal.at.returns-then-not-has_equality c).After-count_place-place c.has_equality.result c.has_equality.ensures)
    ∙ c.if-not-has_equality.true))

pub remaining-requires-2 : goal.remaining-requires-2
remaining-requires-2 c = all-within (goal.at.remaining-requires-2 c).After-count_place-place

pub returns : goal.returns
returns c =
    (λ i. first-is (goal.at.returns c).After-between-first i + known (goal.at.returns c).After-literals-l
    (sym c.meets.ensures ∙ c.if-meets.false) true c.remaining-2.result c.remaining-2.ensures
    c.between.result c.between.ensures i)
    ∙ sym (splits-twice (here (goal.at.returns c).After-count_place-place)
    (sym (twice-is (goal.at.returns c).After-count_place-place c.has_equality.result c.has_equality.ensures) ∙ c.if-not-has_equality.false))
