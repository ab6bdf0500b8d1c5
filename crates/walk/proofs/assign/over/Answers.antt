-- `assign::over` meets its contract: a combination of the other numerators and the new one. Assumes nothing.
use mathlib.Core.Path.{◌≡◌, ap, ◌∙◌}
use Prim.Native.Nat.{ℕ, ◌≤◌}
use native.Mathlib.Omega.{arith}
use borrow.Author.Rules.{rules}
use lib.IntN.{pos}
use lib.ListN.{length}
use mir.Syntax.{w64}
use mir.Val.{to_z}
use mir.Facts.{to_z_pos}
use Rattle.rules_types.specs.Limits as limit
use Rattle.rules_types.specs.Limits.{amount}
use Rattle.rows.specs.Products.{amount-bits}
use Rattle.models.specs.Model.{value}
use Rattle.walk.specs.Words.{scaled_value}
use Rattle.walk.proofs.assign.over.Goals as goal
use Rattle.walk.proofs.assign.over.Goals.{Start}

-- an unsigned amount as a signed one
as-signed : (n : ℕ) → n ≤ amount → to_z w64 n ≡ pos n
as-signed n h = to_z_pos w64 (omega arith)

row-length : (s : Start) → length s.args.numerators ≡ limit.rationals
row-length s = search (rules, s.well_formed)

pub returns : goal.returns
returns c =
    let a = c.args in
    let p = c.requires in
    let e = rw (as-signed a.k p.k_le_amount, amount-bits a.a p.a_bound, as-signed a.m p.m_le_amount)
    at c.combine_rows.ensures in
    ap value e ∙ scaled_value a.a (pos a.k) (pos a.m) a.numerators (row-length (goal.at.returns c).Start) a.f p.f_lt_rationals
