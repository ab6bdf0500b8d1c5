-- What an elimination needs: the premise under which demand 3 promises a verdict.
use Rattle.std.specs.Prelude.{not, List, [], ◌∷◌, ◌++◌, ℕ, suc, ◌≤◌, T, length}
use Rattle.std.proofs.Math.Option.{Option, none, some}
use Rattle.rules_types.specs.declared.limits.Limits.{Limits}
use Rattle.rules.specs.Lists.{all}
use Rattle.rules.specs.Problem.{Problem}
use Rattle.rules.specs.Lines.{Line, Variable}
use Rattle.rules.specs.Resolve.{resolve}
use Rattle.rules.specs.Steps.{Step}
use Rattle.rules.specs.Elimination.{State, running, ended, Pair, order_of, overflows, unlimited, round_pairs, loadable_of, load, tried}
use Rattle.rules.specs.Elimination.{try_all, elimination}

-- the lines that an elimination holds, and the pairs that it has tried
unfoldable pub steps_of : State → List Step
steps_of (running steps n) = steps
steps_of (ended e steps n) = steps

unfoldable pub pairs_of : State → ℕ
pairs_of (running steps n) = n
pairs_of (ended e steps n) = n

-- "The course needs every line it would add without limits on lines or amounts, up to its first empty line, which counts, or its end."
unfoldable pub needs : Problem → ℕ
needs p = length (steps_of (elimination unlimited p))

-- every normalized resolvent that it comes to, also one that an earlier line covers
unfoldable pub listed : Option Line → List Line
listed none = []
listed (some l) = l ∷ []

unfoldable pub tried_resolvents : Variable → List Pair → State → List Line
tried_resolvents v [] state = []
tried_resolvents v (p ∷ ps) (ended e steps n) = []
tried_resolvents v (p ∷ ps) (running steps n) =
    let m = resolve v p.upper.line p.lower.line in listed m ++ tried_resolvents v ps (tried unlimited v p m steps (suc n))

unfoldable pub round_resolvents : List Variable → ℕ → List Variable → State → List Line
round_resolvents variables t [] state = []
round_resolvents variables t (v ∷ vs) (ended e steps n) = []
round_resolvents variables t (v ∷ vs) (running steps n) =
    let ps = round_pairs variables v t steps in
    tried_resolvents v ps (running steps n) ++ round_resolvents variables (suc t) vs (try_all unlimited v ps (running steps n))

unfoldable pub resolvents : Problem → List Line
resolvents p = round_resolvents (order_of p) 0 (order_of p) (load unlimited (loadable_of p) (running [] 0))

-- "needs at most 1,024 lines and no amount in a tidied result beyond 1,000,000,000 in size"
pub record Fits (limits : Limits) (p : Problem) : Type 0 where
  pub steps : needs p ≤ limits.steps
  pub amounts : T (all (λ l. not (overflows l)) (resolvents p))
