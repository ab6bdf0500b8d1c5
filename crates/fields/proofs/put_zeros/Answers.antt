use mathlib.Core.Path.{◌≡◌, refl, ap, ◌∙◌}
use mathlib.Core.List.{List}
use Prim.Native.Nat.{ℕ, ◌-◌, ◌≤◌}
use native.Mathlib.Omega.{arith}
use borrow.Author.Rules.{rules}
use lib.ListN.{length, set, replicate, length-set}
use Rattle.fields.specs.Field.{stored}
use Rattle.fields.specs.Filled.{zeros-none, zeros-more}
use Rattle.fields.proofs.put_zeros.Goals as goal

pub loop-j-init : goal.loop-j-init
loop-j-init c = (omega arith, omega arith, refl, zeros-none c.args.from c.args.s.now)

pub loop-j-preserved : goal.loop-j-preserved
loop-j-preserved c =
    let l = c.loop-j in (
      omega arith,
      omega arith,
      length-set l.s l.j 0 ∙ l.invariant.2,
      ap (λ (t : List ℕ). set t l.j 0) l.invariant.3 ∙ zeros-more c.args.from l.j c.args.s.now l.invariant.0 (omega arith),
    )

pub returns : goal.returns
returns c =
    let l = c.loop-j in
    let done : l.j ≡ c.args.to = omega arith in
    l.invariant.3 ∙ ap (λ (j : ℕ). stored c.args.from (replicate (j - c.args.from) 0) c.args.s.now) done
