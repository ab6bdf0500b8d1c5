-- `literal::is_yes` meets its contract. Assumes nothing.
use mathlib.Core.Path.{sym, ◌∙◌}
use borrow.Author.Tests.{le-ltb}
use mathlib.Core.Bool.{false}
use native.Mathlib.Omega.{arith}
use lib.ListN.{get_or-eq_default}
use Rattle.rules_types.specs.Limits.{all_booleans}
use Rattle.masks.specs.Mask.{bits, length-bits}
use Rattle.model_check.proofs.literal.is_yes.Goals as goal

pub returns-else-i-lt-ALL_BOOLEANS : goal.returns-else-i-lt-ALL_BOOLEANS
returns-else-i-lt-ALL_BOOLEANS c =
    let m = c.args.mask in
    le-ltb c.args.i all_booleans c.if-i-lt-ALL_BOOLEANS.false
    ∙ sym (get_or-eq_default (bits all_booleans m) false (omega (arith, length-bits all_booleans m)))
