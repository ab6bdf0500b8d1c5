use mathlib.Core.Path.{◌≡◌, ap, ◌∙◌, subst⁻¹}
use Prim.Native.Nat.{◌+◌, ◌≤◌}
use native.Mathlib.Omega.{arith}
use native.Mathlib.Numerals.{add-one}
use lib.ListN.{length, take, replicate}
use Rattle.rules.specs.Elimination.{order_by, round_of}
use Rattle.lines.specs.declared.line.Line.{Line}
use Rattle.lines.specs.Order.{variables_of}
use Rattle.theory_lists.specs.All.{get_or-replicate-same}
use Rattle.lines.specs.Line.{meaning, Shaped}
use Rattle.rules_types.specs.Limits as limit
use Rattle.steps.specs.Lines.{line_at}
use Rattle.steps.specs.Held.{steps_in}
use Rattle.choosing.specs.Counts.{Counted, untaken-yes, untaken-no, counted_none, counted-line, counted-past, counted-within}
use borrow.Author.Rules.{rules}
use Rattle.choosing.proofs.counts.counted.Goals as goal
use Rattle.choosing.proofs.counts.counted.Goals.{After-line_at-line, After-round, Start, then-round-t, else-round-t}

row : (s : Start) → length s.args.order.rationals ≡ limit.rationals
row s = search (rules, s.well_formed)

pub loop-i-init : goal.loop-i-init
loop-i-init c =
    let a = c.args in
    counted_none (take a.t a.order.rationals) a.proof.now
    (record { uppers = replicate limit.rationals 0; lowers = replicate limit.rationals 0 })
    (λ f. (get_or-replicate-same limit.rationals f 0, get_or-replicate-same limit.rationals f 0))

-- the line is one that the code keeps
shaped : (c : After-line_at-line) → Shaped c.line_at-line.result
unfolding line_at
shaped c =
    rw c.line_at-line.ensures (c.requires.held.steps c.loop-i.i (omega arith)).ready.shaped

pub round-requires-clause-shaped : goal.round-requires-clause-shaped
round-requires-clause-shaped c = shaped c

pub with-counts-requires-clause-shaped : goal.with-counts-requires-clause-shaped
with-counts-requires-clause-shaped c = shaped (goal.at.with-counts-requires-clause-shaped c).After-line_at-line

pub with-counts-requires-clause-within : goal.with-counts-requires-clause-within
with-counts-requires-clause-within c =
    let few = counted-within (take c.args.t c.args.order.rationals) c.args.proof.now c.loop-i.i c.loop-i.counts c.loop-i.invariant in
    λ f k. (omega (arith, (few f k).0), omega (arith, (few f k).1))

-- the line's round, and that of what it stands for
line-round : (c : After-round) → let a = c.args in
    c.round.result ≡ round_of (order_by a.order.rationals) (meaning (line_at a.proof.now c.loop-i.i))
unfolding variables_of
line-round c =
    c.round.ensures
    ∙ ap (λ (line : Line). round_of (order_by c.args.order.rationals) (meaning line)) c.line_at-line.ensures

pub loop-i-preserved : goal.loop-i-preserved
loop-i-preserved c =
    let fs = c.args.order.rationals in
    let t = c.args.t in
    let proof = c.args.proof.now in
    let i = c.loop-i.i in
    let m = meaning (line_at proof i) in
    let few : t ≤ length fs = omega (arith, row (goal.at.loop-i-preserved c).Start) in
    elim c.if-round-t.branch [
      | then-round-t w ↦ subst⁻¹ (Counted (take t fs) (steps_in proof (i + 1))) w.counts-is (rw (add-one i)
          (counted-line (take t fs) proof i c.loop-i.counts w.with-counts.result
          (untaken-yes fs t m few (omega (
            arith,
            w.if-round-t.true,
            line-round (goal.at.loop-i-preserved c).After-round,
          ))) c.loop-i.invariant
          (rw c.line_at-line.ensures at w.with-counts.ensures)))
      | else-round-t w ↦ subst⁻¹ (Counted (take t fs) (steps_in proof (i + 1))) w.counts-is (rw (add-one i)
          (counted-past (take t fs) proof i c.loop-i.counts
          (untaken-no fs t m few (omega (
            arith,
            w.if-round-t.false,
            line-round (goal.at.loop-i-preserved c).After-round,
          ))) c.loop-i.invariant))
    ]

pub returns-clause-within : goal.returns-clause-within
returns-clause-within c =
    let l = c.loop-i in
    let e : l.i ≡ c.args.m = omega arith in
    let taken = take c.args.t c.args.order.rationals in
    counted-within taken c.args.proof.now c.args.m l.counts (rw e at l.invariant)
