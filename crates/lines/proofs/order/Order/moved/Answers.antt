use mathlib.Core.Path.{◌≡◌, sym, ap, ◌∙◌}
use mathlib.Core.List.{List}
use Prim.Native.Nat.{ℕ, ◌-◌}
use native.Mathlib.Omega.{arith}
use lib.ListN.{length, get_or, set}
use Rattle.rules_types.specs.Limits as limit
use Rattle.lines.specs.Order.{shifted, shifted_start, shifted_next, shifted_end}
use borrow.Author.Rules.{rules}
use Rattle.lines.proofs.order.Order.moved.Goals as goal
use Rattle.lines.proofs.order.Order.moved.Goals.{Start}

row : (s : Start) → length s.args.self.rationals ≡ limit.rationals
row s = search (rules, s.well_formed)

pub loop-j-init : goal.loop-j-init
loop-j-init c = (search rules, omega arith, sym (shifted_start c.args.from c.args.self.rationals))

pub loop-j-preserved : goal.loop-j-preserved
loop-j-preserved c =
    let l = c.loop-j in (
      omega arith,
      omega arith,
      ap (λ (list : List ℕ). set list l.j (get_or list (l.j - 1) 0)) l.invariant.2
          ∙ shifted_next c.args.from l.j c.args.self.rationals (omega arith) l.invariant.1
          (omega (arith, row (goal.at.loop-j-preserved c).Start)),
    )

pub returns : goal.returns
returns c =
    let l = c.loop-j in
    let here : l.j ≡ c.args.to = omega arith in
    ap (λ (list : List ℕ). set list c.args.to (get_or c.args.self.rationals c.args.from 0))
    (l.invariant.2 ∙ ap (λ (j : ℕ). shifted c.args.from j c.args.self.rationals) here)
    ∙ shifted_end c.args.from c.args.to c.args.self.rationals (omega (arith, row (goal.at.returns c).Start))
