-- Five proofs that are not the elimination, and are not exactly its candidates: lines in another order, a line after the end, pairs that
-- were not tried, a weaker line kept, and one left out that is not weaker.
use Rattle.std.specs.Prelude.{◌≡◌, List, [], ◌∷◌, ◌++◌, map, ℕ, ℤ, pos, negsuc, length, get_or, take, drop}
use Rattle.std.proofs.Common.{ap, arith}
use Rattle.rules_types.specs.Limits.{standard}
use Rattle.rules.specs.Problem.{Problem}
use Rattle.rules.specs.Steps.{Step, header}
use Rattle.rules.specs.Elimination.{State, running, ended, empty, order_of, limited, loadable_of, elimination}
use Rattle.rules.specs.Needs.{steps_of, pairs_of}
use Rattle.rules.specs.Write.{at_most, clause_of, alone, problem_of}
use Rattle.rules.specs.Compute.{definitions}
use Rattle.theory_elimination.specs.Exactly.{Exactly}
use Rattle.theory_elimination.specs.OfProblem.{elimination-only}
use Rattle.promises_examples.specs.Read.{problem_from}

abbrev Exact : Problem → State → Type 0
Exact p state = Exactly (limited standard) (order_of p) (loadable_of p) state

abbrev ours : Problem → State
ours p = elimination (limited standard) p

-- ---- example 3, x ≤ 5; -x ≤ -5, with its two lines exchanged
abbrev three : Problem
three = problem_from (problem_of 0 1 (alone (at_most (pos 1 ∷ []) (pos 5)) ∷ alone (at_most (negsuc 0 ∷ []) (negsuc 4)) ∷ []))

abbrev exchanged : List Step → List Step
exchanged steps = drop 1 steps ++ take 1 steps

-- the clause of a state's first line
abbrev first_clause : State → ℕ
first_clause state = get_or (map (λ s. (header s.origin).first) (steps_of state)) 0 0

pub lines-exchanged : Exact three (running (exchanged (steps_of (ours three))) 1) → ⊥
unfolding definitions
lines-exchanged h =
    let other = running (exchanged (steps_of (ours three))) 1 in
    let e : ◌≡◌ {A = ℕ} 1 0 = ap first_clause (elimination-only three (limited standard) other h) in
    omega arith

-- ---- an empty clause; x ≤ 5: the second is loaded after the first ended the elimination
abbrev ended-at-once : Problem
ended-at-once = problem_from (problem_of 0 1 (clause_of [] [] ∷ alone (at_most (pos 1 ∷ []) (pos 5)) ∷ []))

pub line-after-the-end : Exact ended-at-once (ended empty (loadable_of ended-at-once) 0) → ⊥
unfolding definitions
line-after-the-end h =
    let other = ended empty (loadable_of ended-at-once) 0 in
    let e : ◌≡◌ {A = ℕ} 2 1 = ap (λ (s : State). length (steps_of s)) (elimination-only ended-at-once (limited standard) other h) in
    omega arith

-- ---- x ≤ 0; x ≤ -1; -x ≤ -1; -x ≤ -2: the first pair ends it, and three are reported
abbrev four : Problem
four =
    problem_from (problem_of 0 1 (alone (at_most (pos 1 ∷ []) (pos 0)) ∷ alone (at_most (pos 1 ∷ []) (negsuc 0)) ∷ alone
    (at_most (negsuc 0 ∷ []) (negsuc 0)) ∷ alone (at_most (negsuc 0 ∷ []) (negsuc 1)) ∷ []))

pub pairs-not-tried : Exact four (ended empty (steps_of (ours four)) 3) → ⊥
unfolding definitions
pairs-not-tried h =
    let other = ended empty (steps_of (ours four)) 3 in
    let e : ◌≡◌ {A = ℕ} 3 1 = ap pairs_of (elimination-only four (limited standard) other h) in
    omega arith

-- ---- two bounds of x, in this order
abbrev bounded : ℤ → ℤ → Problem
bounded a b = problem_from (problem_of 0 1 (alone (at_most (pos 1 ∷ []) a) ∷ alone (at_most (pos 1 ∷ []) b) ∷ []))

-- x ≤ 0; x ≤ 1, both of them kept
pub weaker-line-kept : Exact (bounded (pos 0) (pos 1)) (running (loadable_of (bounded (pos 0) (pos 1))) 0) → ⊥
unfolding definitions
weaker-line-kept h =
    let p = bounded (pos 0) (pos 1) in
    let other = running (loadable_of p) 0 in
    let e : ◌≡◌ {A = ℕ} 2 1 = ap (λ (s : State). length (steps_of s)) (elimination-only p (limited standard) other h) in
    omega arith

-- x ≤ 1; x ≤ 0, the first alone
pub stronger-line-left-out : Exact (bounded (pos 1) (pos 0)) (running (take 1 (loadable_of (bounded (pos 1) (pos 0)))) 0) → ⊥
unfolding definitions
stronger-line-left-out h =
    let p = bounded (pos 1) (pos 0) in
    let other = running (take 1 (loadable_of p)) 0 in
    let e : ◌≡◌ {A = ℕ} 1 2 = ap (λ (s : State). length (steps_of s)) (elimination-only p (limited standard) other h) in
    omega arith
