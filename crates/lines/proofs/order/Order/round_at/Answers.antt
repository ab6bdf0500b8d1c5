-- `Order::round_at` meets its contract. Assumes nothing.
use mathlib.Core.Path.{◌≡◌, subst}
use Prim.Native.Nat.{ℕ, ◌+◌, ◌-◌, ◌<◌}
use lib.ListN.{length}
use Rattle.rules_types.specs.Limits as limit
use Rattle.rules.specs.Lines.{boolean}
use Rattle.theory_saturation.specs.Rounds.{At}
use Rattle.lines.specs.Order.{variable_of, variables_of, at-rational, at-boolean}
use borrow.Author.Rules.{rules}
use Rattle.lines.proofs.order.Order.round_at.Goals as goal
use Rattle.lines.proofs.order.Order.round_at.Goals.{Start}

row : (s : Start) → length s.args.self.rationals ≡ limit.rationals
row s = search (rules, s.well_formed)

pub returns-in-0-to-7 : goal.returns-in-0-to-7
unfolding variable_of
returns-in-0-to-7 c =
    let h : c.args.t < limit.rationals = search rules in (
      c.rational.ensures.upper_bound,
      rw c.rational.ensures.value
          (at-rational c.args.self (row (goal.at.returns-in-0-to-7 c).Start) c.args.t h),
    )

pub returns-in-8-to-39 : goal.returns-in-8-to-39
unfolding variable_of
returns-in-8-to-39 c =
    let t = c.args.t in
    let h : t - 8 < limit.all_booleans = search rules in
    let e : limit.rationals + (t - 8) ≡ t = search rules in (
      h,
      subst (λ (k : ℕ). At (variables_of c.args.self) k (boolean (t - 8))) e
          (at-boolean c.args.self (row (goal.at.returns-in-8-to-39 c).Start) (t - 8) h),
    )
