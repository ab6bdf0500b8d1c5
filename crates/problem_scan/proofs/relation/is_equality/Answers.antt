-- `relation::is_equality` meets its contract. Assumes nothing.
use mathlib.Core.Path.{sym}
use Rattle.theory_bytes.specs.Relations.{equality-code}
use Rattle.problem_scan.proofs.relation.is_equality.Goals as goal

pub returns : goal.returns
returns c = sym (equality-code c.args.code)
