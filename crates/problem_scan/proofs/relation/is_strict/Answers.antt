-- `relation::is_strict` meets its contract. Assumes nothing.
use mathlib.Core.Path.{◌≡◌, refl}
use lib.Dec.{eqb}
use Rattle.rules.specs.Readings.{is_strict}
use Rattle.theory_bytes.specs.Relations.{by_code}
use Rattle.problem_scan.proofs.relation.is_strict.Goals as goal

pub returns : goal.returns
unfolding is_strict
returns c = by_code (λ n r. eqb n 2 ≡ is_strict r) refl refl refl (λ n s t u. s) c.args.code
