-- `trim::put_trimmed` meets its contract. Assumes nothing.
use mathlib.Core.Path.{refl}
use native.Mathlib.Omega.{arith}
use Rattle.trimming.specs.Marks.{unmarked}
use Rattle.trimming.specs.Kept.{putting-below}
use Rattle.trimming.specs.Trimmed.{trimmed-count, trimmed-left}
use Rattle.trimming.proofs.trim.put_trimmed.Goals as goal

pub mark_needed-requires : goal.mark_needed-requires
mark_needed-requires c = record { trimmable = c.requires.trimmable; marks_len = refl; unmarked = unmarked }

pub zero-requires : goal.zero-requires
zero-requires c =
    let k = c.put_kept-n.ensures in record {
      from_le_to = omega (
        arith,
        putting-below c.requires.trimmable _ c.requires.standard_in_bounds k,
        c.requires.trimmable.few,
      );
      to_in_bounds =
          omega (arith, k.size, c.requires.standard_in_bounds);
    }

pub returns : goal.returns
returns c =
    let k = c.put_kept-n.ensures in record {
      value = trimmed-count c.requires.trimmable c.mark_needed.ensures k;
      target_after = trimmed-left c.requires.trimmable c.mark_needed.ensures k
          (omega (arith, putting-below c.requires.trimmable _ c.requires.standard_in_bounds k, c.requires.trimmable.few))
          c.zero.ensures;
    }
