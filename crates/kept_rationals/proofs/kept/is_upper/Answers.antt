-- `kept::is_upper` meets its contract. Assumes nothing.
use mathlib.Core.Path.{◌≡◌, refl, sym}
use mathlib.Core.Bool.{false, not, cond}
use Prim.Native.Nat.{ℕ}
use borrow.Author.Tests.{eq-eqb, ne_eqb}
use lib.Dec.{eqb}
use Rattle.rules.specs.Problem.{relation_of}
use Rattle.rules.specs.Convert.{is_upper}
use Rattle.theory_bytes.specs.Relations.{by_code}
use Rattle.kept_rationals.proofs.kept.is_upper.Goals as goal

upper-code : (n : ℕ) → is_upper (relation_of n) ≡ cond (eqb n 3) false (not (eqb n 4))
unfolding is_upper
upper-code n = by_code (λ n r. is_upper r ≡ cond (eqb n 3) false (not (eqb n 4))) refl refl refl (λ n s t u. rw (t, u)) n

pub returns-then-code-eq3 : goal.returns-then-code-eq3
returns-then-code-eq3 c = sym (rw (upper-code, eq-eqb _ _ c.if-code-eq3.true))

pub returns : goal.returns
returns c = sym (rw (upper-code, ne_eqb _ _ c.if-code-eq3.false))
