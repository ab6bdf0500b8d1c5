-- `parts::next` meets its contract. Assumes nothing.
use mathlib.Core.Path.{◌≡◌, sym, ap, ◌∙◌}
use mathlib.Core.List.{[], ◌∷◌}
use native.Mathlib.Omega.{arith}
use Prim.Native.Nat.{◌<◌}
use mathlib.Core.Bool.{false}
use mathlib.Core.Option.{some}
use lib.Dec.{ltb}
use Rattle.rules_types.specs.Limits.{all_booleans}
use Rattle.rules_types.specs.Layout.{comparison_bytes}
use Rattle.theory_lists.specs.Tests.{of-true}
use Rattle.rules.specs.Lines as rules
use Rattle.rules.specs.Normalize.{reduced}
use Rattle.masks.specs.Mask.{bits}
use Rattle.problem_scan.specs.Values.{constraint_at}
use Rattle.problem_scan.specs.Sound.{SoundComparison, each_first}
use Rattle.lines.specs.Line.{meaning}
use Rattle.problem_parts.specs.Parts.{parts_from, parts_if, with_split, from-bare, from-kept}
use Rattle.problem_parts.proofs.parts.next.Goals as goal
use Rattle.problem_parts.proofs.parts.next.Goals.{Else-parts-eq0}

pub returns-then-parts-eq0 : goal.returns-then-parts-eq0
unfolding parts_from parts_if
returns-then-parts-eq0 c =
    let k = c.requires.sound_parts in record {
      parts_value = from-bare c.args.input.now c.args.r c.args.parts k c.requires.more_value c.if-parts-eq0.true
          ∙ ap (λ (l : rules.Line). l ∷ []) (sym c.bare.ensures.result_value);
      ready = c.bare.ensures.ready;
      sound_parts_2 = record { each = k.each; stays = λ e. absurd (of-true false e); few = k.few };
    }

some_stay : (c : Else-parts-eq0) → 0 < c.args.parts.stay
some_stay c = omega (arith, c.if-parts-eq0.false)

pub skip-first-requires : goal.skip-first-requires
skip-first-requires c = record {
  each = c.requires.sound_parts.each;
  from_value = c.requires.sound_parts.stays c.requires.more_value;
  stay_nonzero = some_stay c;
}

pub reduced_line-requires : goal.reduced_line-requires
reduced_line-requires c =
    let p = c.skip-first in record {
      r_le_rationals = c.requires.r_le_rationals;
      sound_comparison = each_first (SoundComparison c.args.input.now c.args.r) (comparison_bytes c.args.r) p.result.left p.result.at
          p.ensures.more p.ensures.each;
      at_value = p.ensures.stays;
    }

pub rest-requires : goal.rest-requires
rest-requires c = record {
  sound_parts = c.requires.sound_parts;
  skipped = c.skip-first.ensures;
  more_value = (c.requires.more_value, some_stay (goal.at.rest-requires c).Else-parts-eq0);
}

pub returns : goal.returns
returns c =
    let parts = c.args.parts in
    let line : record {
      positive = with_split (ltb 1 parts.stay) parts.split (bits all_booleans parts.positive);
      negative =
          bits all_booleans parts.negative;
      constraint = some (reduced (constraint_at c.args.input.now parts.second c.args.r c.skip-first.result.at));
    }
    ≡ meaning c.reduced_line.result =
    rw (← c.own.ensures) (sym c.reduced_line.ensures.result_value) in record {
      parts_value =
          from-kept c.args.input.now c.args.r parts c.requires.sound_parts c.requires.more_value c.skip-first.result c.skip-first.ensures
          ∙ (λ i. line i ∷ sym c.rest.ensures.result_value i);
      ready = c.reduced_line.ensures.ready;
      sound_parts_2 = c.rest.ensures.sound_parts_2;
    }
