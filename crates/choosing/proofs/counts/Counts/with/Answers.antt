use mathlib.Core.Path.{◌≡◌, sym, ap, ◌∙◌}
use Prim.Native.Nat.{ℕ, ◌+◌}
use native.Mathlib.Omega.{arith}
use Rattle.rules_types.specs.Limits as limit
use Rattle.rules.specs.Arithmetic.{is_positive, is_negative}
use lib.IntN.{pos}
use lib.ListN.{get_or}
use Rattle.lines.specs.Scan.{told}
use Rattle.choosing.specs.Counts.{one, through-next, counted-one}
use borrow.Author.Rules.{rules}
use Rattle.choosing.proofs.counts.Counts.with.Goals as goal
use Rattle.choosing.proofs.counts.Counts.with.Goals.{After-is_negative, After-is_positive}

-- the tests of the coefficient
above : (c : After-is_positive) → c.is_positive.result ≡ is_positive (get_or c.args.line.coefficients c.loop-f.f (pos 0))
above c =
    sym (told is_positive (get_or c.args.line.coefficients c.loop-f.f (pos 0))
    (search (rules, c)) c.is_positive.ensures)

below : (c : After-is_negative) → c.is_negative.result ≡ is_negative (get_or c.args.line.coefficients c.loop-f.f (pos 0))
below c =
    sym (told is_negative (get_or c.args.line.coefficients c.loop-f.f (pos 0))
    (search (rules, c)) c.is_negative.ensures)

pub loop-f-preserved : goal.loop-f-preserved
unfolding one
loop-f-preserved c =
    let row = c.args.line.coefficients in
    let f = c.loop-f.f in (
      through-next is_positive row c.args.self.uppers c.loop-f.self.uppers f _ (omega arith) c.loop-f.invariant.0
          (ap (λ (n : ℕ). get_or c.loop-f.self.uppers f 0 + n) (c.from.ensures
          ∙ ap one (above (goal.at.loop-f-preserved c).After-is_positive))),
      through-next is_negative row c.args.self.lowers c.loop-f.self.lowers f _ (omega arith) c.loop-f.invariant.1
          (ap (λ (n : ℕ). get_or c.loop-f.self.lowers f 0 + n) (c.from-in-loop-f.ensures
          ∙ ap one (below (goal.at.loop-f-preserved c).After-is_negative))),
    )

pub returns : goal.returns
returns c =
    let l = c.loop-f in
    let e : l.f ≡ limit.rationals = omega arith in
    counted-one c.args.line c.requires.shaped c.args.self l.self
    (rw e at l.invariant.0) (rw e at l.invariant.1)
