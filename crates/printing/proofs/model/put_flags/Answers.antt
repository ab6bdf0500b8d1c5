use native.Mathlib.Omega.{arith}
use Rattle.rules.specs.Print.{ascii, print_line}
use Rattle.printing.specs.Room.{number_room}
use Rattle.printing.specs.Texts.{flag_text, making-none, making-more}
use Rattle.printing.proofs.model.put_flags.Goals as goal

pub loop-i-init : goal.loop-i-init
loop-i-init c = let a = c.args in making-none a.at number_room (flag_text a.model.now) a.out.now

pub loop-i-preserved : goal.loop-i-preserved
unfolding print_line ascii
loop-i-preserved c =
    let a = c.args in
    let e = c.put_number-next.ensures in
    making-more a.at number_room (flag_text a.model.now) a.out.now c.loop-i.i (omega (arith, c.requires.b_in_bounds_2))
    c.loop-i.invariant c.put_number-next.auto.out (rw (c.from.ensures, c.u8_at-value.ensures) at e.appended) e.upper_bound
