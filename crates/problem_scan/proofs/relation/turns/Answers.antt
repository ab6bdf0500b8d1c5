-- `relation::turns` meets its contract. Assumes nothing.
use mathlib.Core.Path.{◌≡◌, refl, sym}
use mathlib.Core.Bool.{Bool, cond}
use Prim.Native.Nat.{ℕ}
use borrow.Author.Tests.{eq-eqb, ne_eqb}
use lib.Dec.{eqb}
use Rattle.rules.specs.Problem.{relation_of}
use Rattle.rules.specs.Readings.{turns}
use Rattle.theory_bytes.specs.Relations.{by_code}
use Rattle.problem_scan.proofs.relation.turns.Goals as goal

turns-code : (second : Bool) (n : ℕ) → turns second (relation_of n) ≡ cond (eqb n 3) second (eqb n 4)
unfolding turns
turns-code second n = by_code (λ n r. turns second r ≡ cond (eqb n 3) second (eqb n 4)) refl refl refl (λ n s t u. rw (t, u)) n

pub returns-then-code-eq3 : goal.returns-then-code-eq3
returns-then-code-eq3 c = sym (rw (turns-code, eq-eqb _ _ c.if-code-eq3.true))

pub returns : goal.returns
returns c = sym (rw (turns-code, ne_eqb _ _ c.if-code-eq3.false))
