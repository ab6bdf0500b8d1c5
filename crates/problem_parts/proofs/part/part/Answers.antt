use mathlib.Core.Path.{◌∙◌}
use mathlib.Core.Option.{Option}
use borrow.Author.Tests.{not-true, not-false}
use lib.ListN.{get_elem?}
use Rattle.rules.specs.Lines as rules
use Rattle.rules.specs.Split.{parts_of}
use Rattle.problem_scan.specs.Values.{clause_at}
use Rattle.lines.specs.Line.{meaning}
use Rattle.problem_parts.specs.Part.{looking-here, looking-none, looking-next}
use Rattle.problem_parts.proofs.part.part.Goals as goal
use Rattle.problem_parts.proofs.part.part.Goals.{Start}

-- the part that is looked for
abbrev wanted : Start → Option rules.Line
wanted s = get_elem? (parts_of s.args.split (clause_at s.args.input.now s.args.r s.args.at)) s.args.j

pub seek-from-requires : goal.seek-from-requires
seek-from-requires c = record { sound_clause = c.requires.sound_clause; at_bound = c.requires.at_bound }

pub loop-left-init : goal.loop-left-init
loop-left-init c = c.seek-from.ensures

pub first-requires : goal.first-requires
first-requires c = record { r_le_rationals = c.requires.r_le_rationals; sound_parts = c.loop-left.invariant.sound }

pub returns-then-not-parts : goal.returns-then-not-parts
returns-then-not-parts c =
    let l = c.loop-left in record {
      result_value = c.first.ensures.result_value ∙ looking-none c.args.input.now c.args.r
          (wanted (goal.at.returns-then-not-parts c).Start) l.parts l.left l.invariant
          (not-true _ c.if-not-parts.true);
      ready = c.first.ensures.ready;
    }

pub next-p-requires : goal.next-p-requires
next-p-requires c = record {
  r_le_rationals = c.requires.r_le_rationals;
  sound_parts = c.loop-left.invariant.sound;
  more_value = not-false _ c.if-not-parts.false;
}

pub loop-left-preserved : goal.loop-left-preserved
loop-left-preserved c =
    let n = c.next-p in
    let l = c.loop-left in
    looking-next c.args.input.now c.args.r (wanted (goal.at.loop-left-preserved c).Start) l.parts l.left l.invariant c.loop-left-test.true
    (meaning n.result.line)
    n.result.rest n.ensures.parts_value n.ensures.sound_parts_2

pub first-requires-2 : goal.first-requires-2
first-requires-2 c = record { r_le_rationals = c.requires.r_le_rationals; sound_parts = c.loop-left.invariant.sound }

pub returns : goal.returns
returns c =
    let l = c.loop-left in record {
      result_value = c.first-2.ensures.result_value ∙ looking-here c.args.input.now c.args.r
          (wanted (goal.at.returns c).Start) l.parts l.left l.invariant
          c.loop-left-test.false;
      ready = c.first-2.ensures.ready;
    }
