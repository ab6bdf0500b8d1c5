-- `encode::put_literals` meets its contract. Assumes nothing.
use mathlib.Core.Path.{ap, ◌∙◌}
use mathlib.Core.List.{List}
use Prim.Native.Nat.{ℕ, ◌+◌}
use native.Mathlib.Omega.{arith}
use lib.ListN.{length-set}
use Rattle.rules_types.specs.Layout.{step_relation, step_negative}
use Rattle.rules.specs.Bytes.{to_bytes}
use Rattle.fields.specs.Field.{length-sets, stored}
use Rattle.theory_bytes.specs.Bytes.{length-to_bytes}
use Rattle.steps.specs.Encoding.{fields-stored}
use Rattle.steps.proofs.encode.put_literals.Goals as goal

pub bounds-s : goal.bounds-s
bounds-s c = simp length-set (omega arith)

pub put_u32-requires : goal.put_u32-requires
put_u32-requires c = simp length-set (omega arith)

pub put_u32-requires-2 : goal.put_u32-requires-2
put_u32-requires-2 c =
    let s = c.args in
    omega (arith, c.put_u32.auto.s, length-sets s.s.now step_relation s.relation (step_relation + 1) 0)

pub returns : goal.returns
returns c =
    let s = c.args in
    c.put_u32-2.ensures
    ∙ ap (λ (t : List ℕ). stored step_negative (to_bytes 4 s.negative) t)
    c.put_u32.ensures
    ∙ fields-stored step_relation 4 s.relation 0 (to_bytes 4 s.positive) (to_bytes 4 s.negative) s.s.now
    (length-to_bytes 4 s.positive) (omega (arith, c.requires))
