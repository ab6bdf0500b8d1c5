-- `put_proof` meets its contract. Assumes nothing.
use native.Mathlib.Omega.{arith}
use Rattle.rules.specs.Print.{ascii}
use Rattle.printing.specs.Appended.{appended-++}
use Rattle.printing.proofs.proof.put_proof.Goals as goal

pub returns-clause-appended : goal.returns-clause-appended
unfolding ascii
returns-clause-appended c =
    appended-++ (omega (arith, c.requires.n_in_bounds_2)) c.put_count-next.ensures.appended c.put_steps.ensures.appended
