-- Two limits of lines, one below the other: an elimination comes to the same under both, or it is out of steps under the lesser alone, and
-- holds more lines than that under the other. Both run alike up to the first line that is too many for the lesser; from there on one stands
-- still, and the other's proof only grows.
use Rattle.std.specs.Prelude.{◌≡◌, Bool, ◌⊎◌, ℕ, suc, ◌<◌, leb, length}
use Rattle.std.proofs.Math.Path.{refl}
use Rattle.std.proofs.Common.{sym, subst, ⊎_elim, arith}
use Rattle.std.proofs.Math.Bool.{true, false}
use Rattle.std.proofs.Math.Logic.{inl, inr}
use mathlib.Core.List.{List, [], ◌∷◌, ◌++◌}
use Rattle.std.proofs.Math.Option.{Option, none, some}
use borrow.Author.Tests.{leb-true, leb-false}
use Rattle.std.proofs.Math.ListN.{length-append}
use Rattle.rules_types.specs.declared.limits.Limits.{Limits}
use Rattle.rules.specs.Problem.{Problem}
use Rattle.rules.specs.Lines.{Line, Variable, is_empty}
use Rattle.rules.specs.Resolve.{resolve}
use Rattle.rules.specs.Steps.{Step}
use Rattle.rules.specs.Elimination.{End, empty, overflow, out_of_steps, State, running, ended, limited, overflows, placed, covered}
use Rattle.rules.specs.Elimination.{Pair, round_pairs, add, load, tried, try_all, rounds, eliminate, order_of, loadable_of, elimination}
use Rattle.rules.specs.Needs.{steps_of}
use Rattle.theory_elimination.specs.States.{load-ended, try-ended, rounds-ended}
use Rattle.theory_elimination.specs.Induction.{resolvent_of}
use Rattle.theory_elimination.specs.Prefix.{Prefix, prefix-longer, load-prefix, try-prefix, rounds-prefix}
use Rattle.theory_elimination.specs.Chosen.{elimination-ordered}

-- "full"
abbrev pub IsOutOfSteps : State → Type 0
IsOutOfSteps (running steps n) = ⊥
IsOutOfSteps (ended empty steps n) = ⊥
IsOutOfSteps (ended overflow steps n) = ⊥
IsOutOfSteps (ended out_of_steps steps n) = Unit {0}

-- a stage keeps an end that is "full"
still : (stage : State → State) → ((e : End) (steps : List Step) (n : ℕ) → stage (ended e steps n) ≡ ended e steps n)
    → (state : State) → IsOutOfSteps state → stage state ≡ state
still stage keeps (running steps n) f = absurd f
still stage keeps (ended e steps n) f = keeps e steps n

module _ (lesser larger : Limits) (less : lesser.steps < larger.steps) where
  -- what the lesser limit comes to, and the other
  abbrev pub Alike : State → State → Type 0
  Alike a b = ((a ≡ b) × (IsOutOfSteps a → ⊥)) ⊎ (IsOutOfSteps a × (lesser.steps < length (steps_of b)))

  -- ---- one line
  placed_alike : (w subsumed few many blank : Bool) (s : Step) (steps : List Step) (n : ℕ) → leb lesser.steps (length steps) ≡ few
      → leb larger.steps (length steps) ≡ many
      → Alike (placed w subsumed few blank s steps n) (placed w subsumed many blank s steps n)
  unfolding placed steps_of
  placed_alike true subsumed few many blank s steps n e f = inl (refl, λ k. k)
  placed_alike false true few many blank s steps n e f = inl (refl, λ k. k)
  placed_alike false false true true blank s steps n e f = inr (tt, omega (arith, leb-true larger.steps (length steps) f))
  placed_alike false false true false true s steps n e f =
      inr (tt, rw length-append (omega (arith, leb-true lesser.steps (length steps) e)))
  placed_alike false false true false false s steps n e f =
      inr (tt, rw length-append (omega (arith, leb-true lesser.steps (length steps) e)))
  placed_alike false false false true blank s steps n e f =
      absurd (omega (arith, leb-false lesser.steps (length steps) e, leb-true larger.steps (length steps) f))
  placed_alike false false false false true s steps n e f = inl (refl, λ k. k)
  placed_alike false false false false false s steps n e f = inl (refl, λ k. k)

  add-alike : (w : Bool) (s : Step) (steps : List Step) (n : ℕ)
      → Alike (add (limited lesser) w s steps n) (add (limited larger) w s steps n)
  unfolding add limited
  add-alike w s steps n = placed_alike w (covered s.line steps) _ _ (is_empty s.line) s steps n refl refl

  tried-alike : (v : Variable) (p : Pair) (m : Option Line) (steps : List Step) (n : ℕ)
      → Alike (tried (limited lesser) v p m steps n) (tried (limited larger) v p m steps n)
  unfolding tried limited
  tried-alike v p none steps n = inl (refl, λ k. k)
  tried-alike v p (some l) steps n = add-alike (overflows l) (resolvent_of v p l) steps n

  -- ---- the stages, from where both stand alike
  onward : (f g : State → State) → ((e : End) (steps : List Step) (n : ℕ) → f (ended e steps n) ≡ ended e steps n)
      → ((state : State) → Prefix (steps_of state) (g state)) → ((state : State) → (IsOutOfSteps state → ⊥) → Alike (f state) (g state))
      → (a b : State) → Alike a b → Alike (f a) (g b)
  onward f g keeps grows same a b =
      ⊎_elim (λ h. subst (λ (s : State). Alike (f a) (g s)) h.0 (same a h.1))
      (λ h. inr (subst IsOutOfSteps (sym (still f keeps a h.0)) h.0, omega (arith, h.1, prefix-longer (grows b))))

  load-alike : (ss : List Step) (state : State) → (IsOutOfSteps state → ⊥)
      → Alike (load (limited lesser) ss state) (load (limited larger) ss state)
  unfolding load
  load-alike [] state h = inl (refl, h)
  load-alike (s ∷ ss) (ended e steps n) h = inl (refl, h)
  load-alike (s ∷ ss) (running steps n) h =
      onward (load (limited lesser) ss) (load (limited larger) ss) (λ e steps n. load-ended (limited lesser) e steps n ss)
      (load-prefix (limited larger) ss) (λ state k. load-alike ss state k) _ _ (add-alike false s steps n)

  try-alike : (v : Variable) (ps : List Pair) (state : State) → (IsOutOfSteps state → ⊥)
      → Alike (try_all (limited lesser) v ps state) (try_all (limited larger) v ps state)
  unfolding try_all
  try-alike v [] state h = inl (refl, h)
  try-alike v (p ∷ ps) (ended e steps n) h = inl (refl, h)
  try-alike v (p ∷ ps) (running steps n) h =
      onward (try_all (limited lesser) v ps) (try_all (limited larger) v ps) (λ e steps n. try-ended (limited lesser) e steps n v ps)
      (try-prefix (limited larger) v ps) (λ state k. try-alike v ps state k) _ _
      (tried-alike v p (resolve v p.upper.line p.lower.line) steps (suc n))

  rounds-alike : (variables : List Variable) (t : ℕ) (vs : List Variable) (state : State) → (IsOutOfSteps state → ⊥)
      → Alike (rounds (limited lesser) variables t vs state) (rounds (limited larger) variables t vs state)
  unfolding rounds
  rounds-alike variables t [] state h = inl (refl, h)
  rounds-alike variables t (v ∷ vs) (ended e steps n) h = inl (refl, h)
  rounds-alike variables t (v ∷ vs) (running steps n) h =
      onward (rounds (limited lesser) variables (suc t) vs) (rounds (limited larger) variables (suc t) vs)
      (λ e steps n. rounds-ended (limited lesser) e steps n variables (suc t) vs) (rounds-prefix (limited larger) variables (suc t) vs)
      (λ state k. rounds-alike variables (suc t) vs state k) _ _
      (try-alike v (round_pairs variables v t steps) (running steps n) (λ k. k))

  -- ---- the theorem
  eliminate-alike : (variables : List Variable) (parts : List Step)
      → Alike (eliminate (limited lesser) variables parts) (eliminate (limited larger) variables parts)
  unfolding eliminate
  eliminate-alike variables parts =
      onward (rounds (limited lesser) variables 0 variables) (rounds (limited larger) variables 0 variables)
      (λ e steps n. rounds-ended (limited lesser) e steps n variables 0 variables) (rounds-prefix (limited larger) variables 0 variables)
      (rounds-alike variables 0 variables) _ _ (load-alike parts (running [] 0) (λ k. k))

  pub elimination-alike : (p : Problem) → Alike (elimination (limited lesser) p) (elimination (limited larger) p)
  elimination-alike p = rw (elimination-ordered (limited lesser) p, elimination-ordered (limited larger) p)
      (eliminate-alike (order_of p) (loadable_of p))
