-- `assign::lcm` meets its contract. Assumes nothing.
use Rattle.std.proofs.Common.{ap, ℕ, ◌*◌, ◌/◌}
use Rattle.rules.specs.Arithmetic.{lcm}
use Rattle.theory_vectors.specs.Gcd.{gcd-positiveˡ}
use Rattle.walk.proofs.assign.lcm.Goals as goal

pub nonzero_div-result : goal.nonzero_div-result
nonzero_div-result c = rw c.gcd.ensures (gcd-positiveˡ c.args.a c.args.b c.requires.a_nonzero)

pub returns : goal.returns
unfolding lcm
returns c = ap (λ (g : ℕ). c.args.a / g * c.args.b) c.gcd.ensures
