use mathlib.Core.Path.{◌≡◌, refl, ap, ◌∙◌}
use mathlib.Core.List.{List}
use Prim.Native.Nat.{ℕ, ◌+◌, ◌-◌, ◌≤◌}
use native.Mathlib.Omega.{arith}
use borrow.Author.Rules.{rules}
use lib.ListN.{length, get_or, set, take, length-set}
use lib.Seq.{take_all}
use Rattle.fields.specs.Field.{stored, stored-nothing}
use Rattle.fields.specs.Filled.{bytes-more}
use Rattle.fields.proofs.put_bytes.Goals as goal

pub loop-j-init : goal.loop-j-init
loop-j-init c = (omega arith, refl, stored-nothing c.args.at c.args.s.now)

pub loop-j-preserved : goal.loop-j-preserved
loop-j-preserved c =
    let l = c.loop-j in
    let a = c.args in
    let x = get_or a.bytes.now l.j 0 in (
      omega arith,
      length-set l.s (a.at + l.j) x ∙ l.invariant.1,
      ap (λ (t : List ℕ). set t (a.at + l.j) x) l.invariant.2
          ∙ bytes-more a.at l.j a.bytes.now a.s.now (omega arith) c.requires,
    )

pub returns : goal.returns
returns c =
    let l = c.loop-j in
    let a = c.args in
    l.invariant.2 ∙ ap (λ (y : List ℕ). stored a.at y a.s.now) (take_all l.j a.bytes.now (omega arith))
