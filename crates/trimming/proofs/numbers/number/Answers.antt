-- `numbers::number` meets its contract. Assumes nothing.
use mathlib.Core.Path.{◌≡◌, ap, ◌∙◌}
use Prim.Native.Nat.{ℕ, ◌+◌, ◌*◌, ◌/◌, ◌%◌, ◌^◌, ◌<◌}
use native.Mathlib.Omega.{arith}
use lib.Count.{ones}
use lib.ListN.{get_or}
use lib.Pow.{pow_pos}
use Rattle.rules_types.specs.Limits.{steps}
use Rattle.rules.specs.Trim.{count_below}
use Rattle.theory_trimming.specs.Count.{count_most}
use Rattle.masks.specs.Mask.{shift_is}
use Rattle.trimming.specs.Marks.{is_marked}
use Rattle.trimming.specs.Numbers.{number_is}
use Rattle.trimming.proofs.numbers.number.Goals as goal
use Rattle.trimming.proofs.numbers.number.Goals.{After-shared_slice_known-2-1}

pub nonzero_rem-below-2 : goal.nonzero_rem-below-2
nonzero_rem-below-2 c = let b = c.args.i % 32 in omega (arith, shift_is b (omega arith), pow_pos b)

-- the number, as the machine computes it
counted : (c : After-shared_slice_known-2-1) → let a = c.args in
    get_or a.before.now (a.i / 32) 0 + ones (get_or a.marks.now (a.i / 32) 0 % (1 * 2 ^ (a.i % 32) % 4294967296))
    ≡ count_below (is_marked a.marks.now) a.i
counted c =
    let a = c.args in
    ap (λ (p : ℕ). get_or a.before.now (a.i / 32) 0 + ones (get_or a.marks.now (a.i / 32) 0 % p)) (shift_is (a.i % 32) (omega arith))
    ∙ number_is a.marks.now a.before.now c.requires.counted a.i c.requires.i_lt_steps

small : (c : After-shared_slice_known-2-1) → count_below (is_marked c.args.marks.now) c.args.i < steps
small c =
    omega (arith, count_most (is_marked c.args.marks.now) c.args.i, c.requires.i_lt_steps)

pub overflow_cast-result-2 : goal.overflow_cast-result-2
overflow_cast-result-2 c = omega (arith, counted c, small c)

pub overflow_add-result : goal.overflow_add-result
overflow_add-result c = omega (arith, counted c, small c)

pub returns : goal.returns
returns c = counted c
