-- `edition::non_negative` meets its contract. Assumes nothing.
use mathlib.Core.Path.{◌≡◌, sym, ap, subst, refl}
use mathlib.Core.Bool.{Bool, true, false, cond}
use mathlib.Core.List.{List}
use mathlib.Core.Option.{some}
use Prim.Native.Nat.{ℕ, ◌<◌}
use native.Mathlib.Omega.{arith}
use lib.Dec.{eqb}
use lib.IntN.{ℤ, pos, negsuc}
use lib.ListN.{replicate, set}
use Rattle.rules_types.specs.Limits as limit
use Rattle.rules.specs.Lines as rules
use Rattle.rules.specs.Lines.{no_booleans}
use Rattle.theory_lists.specs.Tabulated.{all-tabulate}
use Rattle.theory_vectors.specs.Amounts.{Small, SmallAmounts}
use Rattle.theory_splitting.specs.Editions.{non_negative_line, row-added}
use Rattle.masks.specs.Mask.{bits}
use Rattle.lines.specs.declared.line.Line.{Line}
use Rattle.lines.specs.Line.{meaning, constraint_of, Ready}
use Rattle.lines.specs.Ready.{small-ready}
use Rattle.problem_parts.proofs.edition.non_negative.Goals as goal

-- the line that is made
made : ℕ → Line
made f = record {
  positive = 0;
  negative = 0;
  relation = 1;
  coefficients = set (replicate limit.rationals (pos 0)) f (negsuc 0);
  bound = pos 0;
}

made-is : (f : ℕ) → f < limit.rationals → meaning (made f) ≡ non_negative_line f
unfolding made meaning constraint_of non_negative_line no_booleans bits
made-is f h = ap (λ (row : List ℤ). record {
  positive = replicate limit.all_booleans false;
  negative = replicate limit.all_booleans false;
  constraint = some (record { strict = false; coefficients = row; bound = pos 0 });
}) (row-added f h)

small : (f : ℕ) → SmallAmounts (non_negative_line f).constraint
unfolding non_negative_line
small f = (all-tabulate Small limit.rationals (λ i. cond (eqb i f) (negsuc 0) (pos 0)) (λ i l. by (eqb i f)), omega arith)
  where
    by : (t : Bool) → Small (cond t (negsuc 0) (pos 0))
    by true = omega arith
    by false = omega arith

made-ready : (f : ℕ) → f < limit.rationals → Ready (made f)
unfolding made
made-ready f h =
    small-ready (made f) (record { related = omega arith; coefficients = λ e. absurd (omega arith); bound = λ e. refl })
    (subst (λ (l : rules.Line). SmallAmounts l.constraint) (sym (made-is f h)) (small f))

pub returns : goal.returns
unfolding made
returns c = record { result_value = made-is c.args.f c.requires; ready = made-ready c.args.f c.requires }
