use Prim.Native.Nat.{◌<◌, ◌≤◌}
use Rattle.problem_scan.specs.Values.{clause_end}
use mathlib.Core.Path.{refl, ◌∙◌}
use native.Mathlib.Omega.{arith}
use lib.ListN.{length, length-set}
use Rattle.proof_check.specs.Index.{readable-short, indexing-start, indexing-within, indexing-place, indexing-small}
use Rattle.proof_check.specs.Index.{indexing-next}
use Rattle.proof_check.proofs.index.index.Goals as goal
use Rattle.proof_check.proofs.index.index.Goals.{In-loop-c}

pub loop-c-init : goal.loop-c-init
loop-c-init c = (refl, refl, indexing-start c.args.places.now c.args.variables.now c.requires.readable)

-- the clause at hand stands in the slice, and so does what is behind it
inside : (c : In-loop-c) → clause_end c.args.input.now c.args.sizes.rationals c.loop-c.at ≤ length c.args.input.now
inside c = indexing-within c.loop-c.invariant.2 c.loop-c-test.true

room : (c : In-loop-c) → (c.loop-c.c < length c.loop-c.places)
    × (c.loop-c.c < length c.loop-c.variables)
room c =
    let l = c.loop-c in
    let k = c.requires.readable.parsed.clauses in (
      omega (arith, c.loop-c-test.true, l.invariant.0, c.requires.places_len),
      omega (arith, c.loop-c-test.true, l.invariant.1, c.requires.variables_len),
    )

pub overflow_cast-places : goal.overflow_cast-places
overflow_cast-places c =
    omega (arith, indexing-place c.loop-c.invariant.2 c.loop-c-test.true, readable-short c.requires.readable)

pub offset_bounds-places-c : goal.offset_bounds-places-c
offset_bounds-places-c c = omega (arith, (room c).0, c.requires.places_len, c.loop-c.invariant.0)

pub bounds-places-c : goal.bounds-places-c
bounds-places-c c = (room c).0

pub overflow_cast-variables : goal.overflow_cast-variables
overflow_cast-variables c =
    omega (arith, indexing-small c.loop-c.invariant.2 c.loop-c-test.true c.requires.readable.parsed.booleans)

pub bounds-variables-c : goal.bounds-variables-c
bounds-variables-c c = (room c).1

pub splits-requires : goal.splits-requires
splits-requires c = inside c

pub overflow_add-variable : goal.overflow_add-variable
overflow_add-variable c =
    omega (arith, c.splits.ensures, indexing-small c.loop-c.invariant.2 c.loop-c-test.true c.requires.readable.parsed.booleans)

pub next-at-requires : goal.next-at-requires
next-at-requires c = inside (goal.at.next-at-requires c).In-loop-c

pub loop-c-preserved : goal.loop-c-preserved
loop-c-preserved c =
    let l = c.loop-c in (
      length-set l.places l.c l.at ∙ l.invariant.0,
      length-set l.variables l.c l.variable ∙ l.invariant.1,
      rw (c.next-at.ensures, c.splits.ensures)
          (indexing-next l.invariant.2 c.loop-c-test.true c.requires.readable.parsed.booleans
          (room (goal.at.loop-c-preserved c).In-loop-c).0 (room (goal.at.loop-c-preserved c).In-loop-c).1),
    )

pub returns : goal.returns
returns c =
    let l = c.loop-c in
    let r = l.invariant.2 in
    record {
      readable = c.requires.readable;
      places-length = l.invariant.0 ∙ c.requires.places_len;
      variables-length = l.invariant.1 ∙ c.requires.variables_len;
      entries = λ i h. r.done i (omega (arith, c.loop-c-test.false));
    }
