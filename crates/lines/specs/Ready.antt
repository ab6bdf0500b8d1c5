-- Lines whose numbers are amounts, by the constraint that they stand for.
use Rattle.std.specs.Prelude.{◌≡◌, false, [], ◌∷◌, ℕ, zero, suc}
use Rattle.std.proofs.Common.{subst}
use Rattle.rules.specs.Elimination.{overflows}
use Rattle.theory_lists.specs.Tests.{of-false}
use Rattle.theory_lists.specs.All.{All, append-all}
use Rattle.theory_vectors.specs.Amounts.{Small, SmallAmounts, amounts-small, small-amounts, row_small, overflows-no}
use Rattle.lines.specs.declared.line.Line.{Line}
use Rattle.lines.specs.Line.{constraint_of, meaning, Shaped, Ready}
use Rattle.lines.specs.Forms.{row_is}

pub small-ready : (l : Line) → Shaped l → SmallAmounts (meaning l).constraint → Ready l
small-ready l h s =
    let r = append-all Small l.coefficients (l.bound ∷ []) (subst (All Small) (row_is l h) ((row_small (meaning l).constraint).0 s)) in
    record { shaped = h; coefficients = small-amounts l.coefficients r.0; bound = r.1.0 }

pub ready-small : (l : Line) → Ready l → SmallAmounts (meaning l).constraint
unfolding meaning constraint_of
ready-small l h = by l.relation
  where
    by : (r : ℕ) → SmallAmounts (constraint_of r l.coefficients l.bound)
    by zero = tt
    by (suc r) = (amounts-small l.coefficients h.coefficients, h.bound)

pub narrow-ready : (l : Line) → Shaped l → overflows (meaning l) ≡ false → Ready l
narrow-ready l h e = small-ready l h ((overflows-no (meaning l)).0 (of-false (overflows (meaning l)) e))
