-- `sign::is_zero` meets its contract: only 0 has the bits of 0. Assumes nothing.
use Rattle.machine.specs.Signed.{zero_test}
use Rattle.machine.proofs.sign.is_zero.Goals as goal

pub returns : goal.returns
returns c = zero_test c.args.z c.ranges.z
