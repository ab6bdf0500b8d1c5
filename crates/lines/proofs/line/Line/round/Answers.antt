-- `Line::round` meets its contract. Assumes nothing.
use mathlib.Core.Path.{sym, ap, ◌∙◌}
use Prim.Native.Nat.{ℕ}
use native.Mathlib.Omega.{arith}
use lib.Bits.{bit_or}
use lib.Count.{trailing_le}
use Rattle.rules_types.specs.Limits as limit
use Rattle.lines.specs.Forms.{leading, round_is}
use Rattle.lines.proofs.line.Line.round.Goals as goal

pub leading-requires : goal.leading-requires
leading-requires c =
    let l = c.args.self in record {
      ordered = c.requires.ordered;
      rest_le_all_booleans = omega (arith, c.lowest.ensures, trailing_le limit.all_booleans (bit_or l.positive l.negative));
    }

pub returns : goal.returns
returns c =
    let l = c.args.self in
    let o = c.args.order in
    c.leading.ensures ∙ ap (λ (r : ℕ). leading o.rationals l.coefficients r) c.lowest.ensures
    ∙ sym (round_is o l c.requires.shaped)
