-- `parts::rest` meets its contract. Assumes nothing.
use native.Mathlib.Omega.{arith}
use Rattle.rules_types.specs.Layout.{comparison_bytes}
use Rattle.problem_scan.specs.Sound.{SoundComparison, each_first, each-rest}
use Rattle.problem_parts.specs.Parts.{parts_from, parts_behind, zero_bits, behind-count}
use Rattle.problem_parts.proofs.parts.rest.Goals as goal
use Rattle.problem_parts.proofs.parts.rest.Goals.{Start}

-- the constraint at the place
sound : (s : Start) → SoundComparison s.args.input.now s.args.r s.args.from.at
sound s =
    let a = s.args in
    let k = s.requires.skipped in
    each_first (SoundComparison a.input.now a.r) (comparison_bytes a.r) a.from.left a.from.at k.more k.each

pub overflow_add-result : goal.overflow_add-result
overflow_add-result c =
    omega (arith, c.comparison_bytes-size.ensures, (sound (goal.at.overflow_add-result c).Start).within, c.well_formed)

pub returns : goal.returns
unfolding parts_from parts_behind
returns c =
    let k = c.requires.skipped in record {
      result_value = rw (c.with.ensures, zero_bits, c.comparison_bytes-size.ensures);
      sound_parts_2 = rw c.comparison_bytes-size.ensures (record {
        each = each-rest (SoundComparison c.args.input.now c.args.r) (comparison_bytes c.args.r) c.args.from.left
            c.args.from.at k.more k.each;
        stays = λ e. behind-count c.args.input.now c.args.r c.args.parts c.requires.sound_parts c.requires.more_value.0 c.args.from k;
        few = omega (arith, c.requires.sound_parts.few, c.requires.more_value.1);
      });
    }
