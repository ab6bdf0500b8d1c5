-- At its end without an empty line an elimination holds every part and is saturated: of every round all pairs are dropped, by normalizing
-- or by a line.
use Rattle.std.specs.Prelude.{◌≡◌, refl, Bool, true, false, ℕ, zero, suc, ◌+◌}
use Rattle.std.proofs.Common.{sym, inl}
use Rattle.std.proofs.Math.Path.{subst}
use mathlib.Core.List.{List, [], ◌∷◌, ◌++◌, map}
use Rattle.std.proofs.Math.Option.{Option, none, some}
use native.Mathlib.Omega.{arith}
use Rattle.rules.specs.Lines.{Line, Variable}
use Rattle.rules.specs.Resolve.{resolve}
use Rattle.rules.specs.Steps.{Step}
use Rattle.rules.specs.Elimination.{Stops, running, covered, Pair, round_pairs, eliminate}
use Rattle.rules.specs.Needs.{steps_of}
use Rattle.theory_lists.specs.All.{All, Any, any-right, append-all, mapped-all, any-mapped}
use Rattle.theory_saturation.specs.Rounds.{At}
use Rattle.theory_saturation.specs.Covered.{AccountedFor}
use Rattle.theory_saturation.specs.Drops.{Drops, drops-self, covered-exactly}
use Rattle.theory_saturation.specs.Tried.{pairs-tried}
use Rattle.theory_saturation.specs.Saturation.{AllPairs}
use Rattle.theory_elimination.specs.Exactly.{Candidate, part, made, dropped, resolvent_or, resolvent_at, resolvents_from, candidates}
use Rattle.theory_elimination.specs.Exactly.{keep_one, keep, Exactly}
use Rattle.theory_elimination.specs.OneLoop.{elimination-exactly}
use Rattle.theory_elimination.specs.Kept.{stays}

abbrev pub lines : List Step → List Line
lines steps = map (λ s. s.line) steps

-- some line of the proof drops the candidate, as the candidate itself does
abbrev Held : List Step → Step → Type 0
Held steps s = Any (λ x. Drops x.line s.line) steps

abbrev InProof : List Step → Candidate → Type 0
InProof steps (part s) = Held steps s
InProof steps (made s) = Held steps s
InProof steps dropped = Unit {0}

kept : (held : List Step) (s : Step) → Held (keep_one held s) s
unfolding keep_one
kept held s = by (covered s.line held) refl
  where
    by : (subsumed : Bool) → covered s.line held ≡ subsumed → Held (elim subsumed [ true ↦ held | false ↦ held ++ (s ∷ []) ]) s
    by true e = (covered-exactly s.line held).0 (rw e tt)
    by false e = any-right (λ x. Drops x.line s.line) held (s ∷ []) (inl (drops-self s.line))

all-kept : (xs : List Candidate) (held : List Step) → All (InProof (keep held xs)) xs
unfolding keep
all-kept [] held = tt
all-kept (part s ∷ xs) held = (stays (λ x. Drops x.line s.line) xs (keep_one held s) (kept held s), all-kept xs (keep_one held s))
all-kept (made s ∷ xs) held = (stays (λ x. Drops x.line s.line) xs (keep_one held s) (kept held s), all-kept xs (keep_one held s))
all-kept (dropped ∷ xs) held = (tt, all-kept xs held)

-- ---- the resolvents of one round
rounds-resolvents : (variables : List Variable) (steps : List Step) (t i : ℕ) (vs : List Variable) (v : Variable) → At vs i v
    → All (InProof steps) (resolvents_from variables t vs steps)
    → All (InProof steps) (map (resolvent_at v) (round_pairs variables v (t + i) steps))
unfolding resolvents_from
rounds-resolvents variables steps t i [] v a h = absurd a
rounds-resolvents variables steps t zero (w ∷ vs) v a h =
    let e : t + zero ≡ t = omega arith in
    rw e (subst (λ (u : Variable). All (InProof steps) (map (resolvent_at u) (round_pairs variables u t steps))) a
    (append-all (InProof steps) (map (resolvent_at w) (round_pairs variables w t steps)) (resolvents_from variables (suc t) vs steps) h).0)
rounds-resolvents variables steps t (suc i) (w ∷ vs) v a h =
    let e : t + suc i ≡ suc t + i = omega arith in
    rw e (rounds-resolvents variables steps (suc t) i vs v a
    (append-all (InProof steps) (map (resolvent_at w) (round_pairs variables w t steps)) (resolvents_from variables (suc t) vs steps) h).1)

held-line : (steps : List Step) (s : Step) → Held steps s → Any (λ j. Drops j s.line) (lines steps)
held-line steps s h = any-mapped (λ j. Drops j s.line) (λ x. x.line) steps h

accounted : (steps : List Step) (v : Variable) (ps : List Pair) → All (InProof steps) (map (resolvent_at v) ps)
    → All (λ p. AccountedFor Drops (lines steps) (resolve v p.upper.line p.lower.line)) ps
accounted steps v [] h = tt
accounted steps v (p ∷ ps) h = (by (resolve v p.upper.line p.lower.line) h.0, accounted steps v ps h.1)
  where
    by : (m : Option Line) → InProof steps (resolvent_or v p m) → AccountedFor Drops (lines steps) m
    by none k = tt
    by (some l) k = any-mapped (λ j. Drops j l) (λ x. x.line) steps k

module _ (stops : Stops) (variables : List Variable) (parts steps : List Step) (n : ℕ)
    (e : eliminate stops variables parts ≡ running steps n) where
  complete : All (InProof steps) (map part parts) × All (InProof steps) (resolvents_from variables 0 variables steps)
  unfolding steps_of
  complete =
      let h = subst (Exactly stops variables parts) e (elimination-exactly stops variables parts) in
      let xs = candidates variables parts steps in
      append-all (InProof steps) (map part parts) (resolvents_from variables 0 variables steps)
      (subst (λ (now : List Step). All (InProof now) xs) (sym h.proof) (all-kept xs []))

  pub elimination-loaded : All (λ x. Any (λ j. Drops j x.line) (lines steps)) parts
  elimination-loaded = all_of parts (mapped-all (InProof steps) part parts complete.0)
    where
      all_of : (ss : List Step) → All (Held steps) ss → All (λ x. Any (λ j. Drops j x.line) (lines steps)) ss
      all_of [] h = tt
      all_of (s ∷ ss) h = (held-line steps s h.0, all_of ss h.1)

  pub elimination-saturated : AllPairs Drops (lines steps) variables
  unfolding round_pairs
  elimination-saturated t v a =
      let z : 0 + t ≡ t = omega arith in
      let r = rounds-resolvents variables steps 0 t variables v a complete.1 in
      pairs-tried Drops variables t v (lines steps) steps (accounted steps v (round_pairs variables v t steps) (rw z at r))
