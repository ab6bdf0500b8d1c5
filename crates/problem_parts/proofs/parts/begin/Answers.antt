-- `parts::begin` meets its contract: the literals clash, a constraint always holds, or those that stay are counted.
use mathlib.Core.Path.{◌≡◌, refl, sym, ap, ◌∙◌}
use mathlib.Core.Bool.{Bool, true, false}
use Prim.Native.Nat.{ℕ, ◌+◌, ◌<◌}
use native.Mathlib.Omega.{arith}
use lib.ListN.{length, get_or}
use mir.Syntax.{w64}
use mir.Val.{Fits}
use Rattle.rules_types.specs.Limits.{all_booleans}
use Rattle.rules.specs.Lines.{meet}
use Rattle.masks.specs.Mask.{bits}
use Rattle.problem_scan.specs.Values.{count_of, clause_end}
use Rattle.problem_clauses.specs.declared.splits.Staying.{Staying}
use Rattle.problem_clauses.specs.declared.splits.Staying.TheVariants.{Dropped, Count}
use Rattle.problem_clauses.specs.Walk.{count-within, clause-within}
use Rattle.problem_parts.specs.declared.parts.Parts.{Parts}
use Rattle.problem_parts.specs.Parts.{positive_of, negative_of, staying_of, Started, Begun, Agreeing, begun}
use Rattle.problem_parts.proofs.parts.begin.Goals as goal
use Rattle.problem_parts.proofs.parts.begin.Goals.{After-count_place-place, After-literals-l, Else-meets, Start}

-- the count of comparisons and the byte behind the first are in the slice
counted : (s : Start) → count_of s.args.input.now s.args.at < length s.args.input.now
counted s = count-within s.args.input.now s.args.r s.args.at s.requires.sound_clause.within

within : (s : Start) → s.args.at + 1 < length s.args.input.now
within s = clause-within s.args.input.now s.args.r s.args.at s.requires.sound_clause.within

pub count_place-place-requires : goal.count_place-place-requires
count_place-place-requires c = counted (goal.at.count_place-place-requires c).Start

pub overflow_add-at : goal.overflow_add-at
overflow_add-at c = omega (arith, within (goal.at.overflow_add-at c).Start, c.well_formed)

pub bounds-input-at : goal.bounds-input-at
bounds-input-at c = omega (arith, within (goal.at.bounds-input-at c).Start)

pub literals-l-requires : goal.literals-l-requires
unfolding count_of
literals-l-requires c = omega (arith, counted (goal.at.literals-l-requires c).Start)

pub bounds-input-place : goal.bounds-input-place
bounds-input-place c = omega (arith, c.count_place-place.ensures, counted (goal.at.bounds-input-place c).Start)

-- the first constraint's place fits
place-fits : (c : After-count_place-place) → Fits w64 (c.count_place-place.result + 1)
place-fits c = omega (arith, c.count_place-place.ensures, counted (goal.at.After-count_place-place c).Start, c.well_formed)

pub overflow_add-first : goal.overflow_add-first
overflow_add-first c = place-fits (goal.at.overflow_add-first c).After-count_place-place

-- the parts, with either answer
first : After-literals-l → Bool → ℕ → Parts
first c m n =
    let l = c.literals-l.result in
    record {
      second = c.args.second;
      more = m;
      at = c.count_place-place.result + 1;
      left = get_or c.args.input.now c.count_place-place.result 0;
      stay = n;
      positive = l.positive;
      negative = l.negative;
      split = c.args.split;
    }

started : (c : After-literals-l) (m : Bool) (n : ℕ) → Started c.args.input.now c.args.r c.args.at (first c m n)
unfolding first
started c m n =
    let l = c.literals-l in
    let p = c.count_place-place in
    record {
      place = ap (λ (i : ℕ). i + 1) p.ensures;
      count = ap (λ (i : ℕ). get_or c.args.input.now i 0) p.ensures;
      positive = l.ensures.positive;
      negative = l.ensures.negative;
    }

-- so they are those of the reading
all : (c : After-literals-l) (m : Bool) (n : ℕ) → n < 256 → (t : Bool) (k : Staying)
    → meet (positive_of (first c m n)) (negative_of (first c m n)) ≡ t
    → k ≡ staying_of c.args.input.now c.args.r (first c m n) → Agreeing t k (first c m n)
    → Begun c.args.input.now c.args.r c.args.at c.args.split c.args.second (first c m n)
unfolding first
all c m n few =
    begun c.args.input.now c.args.r c.args.at (first c m n) (started c m n) c.requires.sound_clause
    (omega (arith, c.requires.split_le_all_booleans, few))

pub returns-then-meets : goal.returns-then-meets
unfolding first
returns-then-meets c = all (goal.at.returns-then-meets c).After-literals-l false 0 (omega arith) true _
    (sym c.meets.ensures ∙ c.if-meets.true) refl (refl, refl)

-- no variable has both signs
apart : (c : Else-meets) → let l = c.literals-l.result in
    meet (bits all_booleans l.positive) (bits all_booleans l.negative) ≡ false
apart c = sym c.meets.ensures ∙ c.if-meets.false

pub overflow_add-place : goal.overflow_add-place
overflow_add-place c = place-fits (goal.at.overflow_add-place c).After-count_place-place

pub remaining-k-requires : goal.remaining-k-requires
unfolding clause_end
remaining-k-requires c = rw c.count_place-place.ensures c.requires.sound_clause.within

pub returns-in_default : goal.returns-in_default
unfolding first
returns-in_default c =
    all (goal.at.returns-in_default c).After-literals-l false 0 (omega arith) false Dropped
    (apart (goal.at.returns-in_default c).Else-meets)
    (sym c.in_default.is ∙ c.remaining-k.ensures) (refl, refl)

pub returns : goal.returns
unfolding first
returns c =
    let n = c.in-Count.n in
    let f : n < 256 = omega arith in
    all (goal.at.returns c).After-literals-l true n f false (Count n) (apart (goal.at.returns c).Else-meets)
    (sym c.in-Count.is ∙ c.remaining-k.ensures)
    (refl, refl)
