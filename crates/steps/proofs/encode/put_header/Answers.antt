-- `encode::put_header` meets its contract. Assumes nothing.
use mathlib.Core.Path.{ap, ◌∙◌}
use mathlib.Core.List.{List}
use Prim.Native.Nat.{ℕ}
use native.Mathlib.Omega.{arith}
use lib.ListN.{length-set}
use Rattle.rules_types.specs.Layout.{step_how, step_which, step_second}
use Rattle.rules.specs.Bytes.{to_bytes}
use Rattle.rules.specs.Steps.{header_bytes}
use Rattle.fields.specs.Field.{length-sets, stored}
use Rattle.theory_bytes.specs.Bytes.{length-to_bytes}
use Rattle.steps.specs.Encoding.{fields-stored}
use Rattle.steps.proofs.encode.put_header.Goals as goal

pub bounds-s-1 : goal.bounds-s-1
bounds-s-1 c = simp length-set (omega arith)

pub put_u16-requires : goal.put_u16-requires
put_u16-requires c = simp length-set (omega arith)

pub put_u16-requires-2 : goal.put_u16-requires-2
put_u16-requires-2 c =
    let s = c.args in
    omega (arith, c.put_u16.auto.s, length-sets s.s.now step_how s.origin.how step_which s.origin.which)

pub returns : goal.returns
unfolding header_bytes
returns c =
    let s = c.args in
    c.put_u16-2.ensures
    ∙ ap (λ (t : List ℕ). stored step_second (to_bytes 2 s.origin.second) t)
    c.put_u16.ensures
    ∙ fields-stored step_how 2 s.origin.how s.origin.which (to_bytes 2 s.origin.first) (to_bytes 2 s.origin.second) s.s.now
    (length-to_bytes 2 s.origin.first) (omega (arith, c.requires))
