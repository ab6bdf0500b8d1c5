-- `normalize::zero_row` meets its contract. Assumes nothing.
use mathlib.Core.Path.{◌≡◌, ap, ◌∙◌}
use mathlib.Core.List.{List}
use Prim.Native.Nat.{ℕ}
use native.Mathlib.Omega.{arith}
use borrow.Author.Rules.{rules}
use lib.Dec.{eqb}
use lib.ListN.{length}
use Rattle.rules_types.specs.Limits as limit
use Rattle.lines.specs.Forms.{leading}
use Rattle.normalization.specs.Normal.{zeros-leading}
use Rattle.normalization.proofs.normalize.zero_row.Goals as goal

pub leading-requires : goal.leading-requires
leading-requires c = record { ordered = c.rising.ensures.ordered; rest_le_all_booleans = omega arith }

pub returns : goal.returns
returns c =
    let row = c.args.row in
    let n : length row ≡ limit.rationals = search rules in
    ap (λ (i : ℕ). eqb i limit.rationals) c.leading.ensures
    ∙ ap (λ (fs : List ℕ). eqb (leading fs row 0) limit.rationals) c.rising.ensures.rationals_value ∙ zeros-leading row n
