-- `edition::added` meets its contract: by the edition. Assumes nothing.
use mathlib.Core.Path.{◌≡◌, sym, ap, ◌∙◌}
use Prim.Native.Nat.{ℕ}
use lib.ListN.{length}
use Rattle.rules_types.specs.declared.terms.Edition.{Edition}
use Rattle.rules_types.specs.declared.terms.Edition.TheVariants.{First, Second}
use Rattle.rules.specs.Problem.{added, non_negative}
use Rattle.theory_lists.specs.Tabulated.{length-tabulate}
use Rattle.problem_clauses.proofs.edition.added.Goals as goal

in-first : (e : Edition) (r : ℕ) → e ≡ First → 0 ≡ length (added e r)
unfolding added
in-first e r h = sym (ap (λ (d : Edition). length (added d r)) h)

in-second : (e : Edition) (r : ℕ) → e ≡ Second → r ≡ length (added e r)
unfolding added
in-second e r h = sym (ap (λ (d : Edition). length (added d r)) h ∙ length-tabulate r non_negative)

pub returns-in-First : goal.returns-in-First
returns-in-First c = in-first _ _ c.in-First.is

pub returns-in-Second : goal.returns-in-Second
returns-in-Second c = in-second _ _ c.in-Second.is
