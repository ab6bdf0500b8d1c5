use native.Mathlib.Omega.{arith}
use Rattle.printing.specs.Room.{step_room}
use Rattle.printing.specs.Texts.{step_text, making-none, making-more}
use Rattle.printing.proofs.proof.put_steps.Goals as goal

pub loop-i-init : goal.loop-i-init
loop-i-init c = let a = c.args in making-none a.at step_room (step_text a.proof.now) a.out.now

pub loop-i-preserved : goal.loop-i-preserved
loop-i-preserved c =
    let a = c.args in
    let e = c.put_origin-next.ensures in
    making-more a.at step_room (step_text a.proof.now) a.out.now c.loop-i.i (omega (arith, c.requires.n_in_bounds_2)) c.loop-i.invariant
    c.put_origin-next.auto.out (rw c.origin_at.ensures at e.appended) e.upper_bound
