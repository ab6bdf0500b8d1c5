use lib.ListN.{length-set, length-drop}
use lib.Seq.{get_or-set_same, get_or-set_other, ext_get_or, get_or-take, get_or-drop, length-take-le}
use borrow.Author.Count.{below_none, below_more}
use mathlib.Core.Path.{◌≡◌, refl, sym, ◌∙◌}
use lib.ListN.{length, get_or, drop, take}
use Prim.Native.Nat.{◌+◌, ◌*◌}
use native.Mathlib.Omega.{arith}
use Rattle.rules_types.specs.Limits.{step_bytes}
use Rattle.steps.specs.Places.{step_at}
use Rattle.steps.proofs.store.get.Goals as goal

pub loop-j-init : goal.loop-j-init
loop-j-init c = (omega arith, (refl, below_none _))

pub loop-j-preserved : goal.loop-j-preserved
loop-j-preserved c = let l = c.loop-j in
    let at = step_bytes * c.args.i in
    let x = get_or c.args.proof.now (at + l.j) 0 in (
      omega arith,
      (
        length-set l.bytes l.j x ∙ l.invariant.1.0,
        below_more _ _
            (λ k h. get_or-set_other l.bytes l.j k x 0 (λ e. absurd (omega arith)) ∙ l.invariant.1.1 k h)
            (get_or-set_same l.bytes l.j x 0 (omega arith)),
      ),
    )

pub returns : goal.returns
unfolding step_at
returns c = let l = c.loop-j in
    let b = c.args.proof.now in
    let at = step_bytes * c.args.i in
    let n : length (take step_bytes (drop at b)) ≡ step_bytes = length-take-le step_bytes (drop at b) (omega (arith, length-drop at b)) in
    ext_get_or 0 l.bytes (take step_bytes (drop at b)) (l.invariant.1.0 ∙ sym n)
    (λ k h. l.invariant.1.1 k (omega arith) ∙ sym (get_or-take step_bytes (drop at b) k 0 (omega arith) ∙ get_or-drop at b k 0))
