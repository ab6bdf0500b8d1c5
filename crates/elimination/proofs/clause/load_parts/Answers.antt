use mathlib.Core.Path.{sym, ap, ◌∙◌}
use Prim.Native.Nat.{◌+◌, ◌≤◌}
use native.Mathlib.Omega.{arith}
use lib.ListN.{length}
use Rattle.rules_types.specs.Limits as limit
use Rattle.steps.specs.Origin.{named-loaded}
use Rattle.elimination.specs.LoadedParts.{parts-start, parts-done, parts_next, parts-ended}
use Rattle.elimination.proofs.clause.load_parts.Goals as goal
use Rattle.elimination.proofs.clause.load_parts.Goals.{At-loop-parts}

pub loop-parts-init : goal.loop-parts-init
loop-parts-init c = parts-start c.requires.progress_value c.requires.standing c.requires.sound_parts

pub next-part-requires : goal.next-part-requires
next-part-requires c = record {
  r_le_rationals = c.requires.r_le_rationals;
  sound_parts = c.loop-parts.invariant.sound;
  more_value = c.loop-parts-test.true;
}

few : (c : At-loop-parts) → c.loop-parts.j ≤ limit.splits + 2
few c = omega (arith, c.loop-parts.invariant.few, c.requires.first_bound)

pub admit-p-requires : goal.admit-p-requires
admit-p-requires c = record {
  standing = c.loop-parts.invariant.leads.standing;
  ready = c.next-part.ensures.ready;
  named = rw c.loaded.ensures (named-loaded c.args.clause c.loop-parts.j c.requires.clause_lt_most_steps
      (omega (arith, few (goal.at.admit-p-requires c).At-loop-parts)));
}

pub returns-then-not-is_running : goal.returns-then-not-is_running
returns-then-not-is_running c =
    parts-ended c.loop-parts.invariant c.next-part.result.line c.next-part.result.rest c.next-part.ensures.parts_value
    (rw c.loaded.ensures at c.admit-p.ensures) (sym c.is_running.ensures ∙ c.if-not-is_running.true)

pub overflow_add-j : goal.overflow_add-j
overflow_add-j c = omega (arith, few (goal.at.overflow_add-j c).At-loop-parts)

pub loop-parts-smaller : goal.loop-parts-smaller
loop-parts-smaller c = omega (arith, ap length c.next-part.ensures.parts_value)

pub loop-parts-preserved : goal.loop-parts-preserved
loop-parts-preserved c =
    parts_next c.loop-parts.invariant c.next-part.result.line c.next-part.result.rest c.next-part.ensures.parts_value
    (rw c.loaded.ensures at c.admit-p.ensures)
    (sym c.is_running.ensures ∙ c.if-not-is_running.false) c.next-part.ensures.sound_parts_2

pub returns : goal.returns
returns c = parts-done c.loop-parts.invariant c.loop-parts-test.false
