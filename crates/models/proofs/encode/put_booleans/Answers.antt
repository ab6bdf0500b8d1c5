use Rattle.std.proofs.Common.{ap, ◌∙◌, List, ℕ, ◌+◌, ◌<◌, arith, length, set}
use Rattle.rules.specs.Lists.{tabulate}
use Rattle.fields.specs.Field.{stored-nothing}
use Rattle.models.specs.Encoded.{flag_byte, tabulate-stored}
use Rattle.models.proofs.encode.put_booleans.Goals as goal

pub loop-i-init : goal.loop-i-init
unfolding tabulate
loop-i-init c = stored-nothing 1 c.args.s.now

pub loop-i-preserved : goal.loop-i-preserved
loop-i-preserved c =
    let l = c.loop-i in
    let t = c.args.s.now in
    let g = flag_byte c.args.mask c.args.occurring in
    let k : 1 + l.i < length l.s = omega (arith, c.requires.booleans_in_bounds) in
    ap (λ (n : ℕ). set l.s (1 + l.i) n) c.boolean_byte.ensures
    ∙ ap (λ (x : List ℕ). set x (1 + l.i) (g l.i)) l.invariant
    ∙ tabulate-stored 1 l.i g t (rw (← l.invariant) k) (omega (arith, c.requires.booleans_in_bounds))
