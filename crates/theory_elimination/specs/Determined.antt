-- No state but the elimination takes up its candidates exactly.
use Rattle.std.specs.Prelude.{◌≡◌, Bool, not, ℕ, suc, ◌+◌, ◌<◌, length, drop}
use Rattle.std.proofs.Math.Path.{refl, sym, ap, subst}
use Rattle.std.proofs.Common.{◌∙◌}
use Rattle.std.proofs.Math.Bool.{true, false}
use mathlib.Core.List.{List, [], ◌∷◌, ◌++◌, map}
use Rattle.std.proofs.Math.Option.{Option, none, some}
use native.Mathlib.Omega.{arith}
use Rattle.std.proofs.Math.Dec.{T}
use Rattle.rules.specs.Lines.{Line, Variable, is_empty}
use Rattle.rules.specs.Resolve.{resolve}
use Rattle.rules.specs.Steps.{Step}
use Rattle.rules.specs.Elimination.{Stops, End, empty, overflow, out_of_steps, State, running, ended, placed, covered, Pair, round_of}
use Rattle.rules.specs.Elimination.{round_pairs}
use Rattle.rules.specs.Elimination.{add, load, try_all, rounds, eliminate}
use Rattle.rules.specs.Needs.{steps_of}
use Rattle.theory_lists.specs.Tests.{is_true, is_false}
use Rattle.theory_lists.specs.All.{All, all_map, all_append}
use Rattle.theory_lists.specs.Dropped.{DroppedOr}
use Rattle.theory_saturation.specs.Rounds.{At, drop_at, drop-next}
use Rattle.theory_elimination.specs.Pairs.{PairOf, round-pairs}
use Rattle.theory_elimination.specs.States.{rounds-ended}
use Rattle.theory_elimination.specs.Grown.{Grown, grown-none, grown-twice, add-grown, Late, same-at-end, pair-later}
use Rattle.theory_elimination.specs.Exactly.{Candidate, part, made, dropped, resolvent_or, resolvent_at, resolvents_from, candidates}
use Rattle.theory_elimination.specs.Exactly.{keep_one, keep, pairs, Passed, Stopped, proof_at, Takes, Exactly}
use Rattle.theory_elimination.specs.OneLoop.{one, run, run-ended, run-append, load-runs, try-runs}

module _ (stops : Stops) where
  -- ---- the loop over candidates comes to one state
  pass-one : (x : Candidate) (held : List Step) (n : ℕ) → Passed stops held (x ∷ [])
      → one stops x held n ≡ running (keep held (x ∷ [])) (n + pairs (x ∷ []))
  unfolding one keep pairs add placed keep_one
  pass-one (part s) held n h = by (covered s.line held) (stops.at_steps (length held)) (is_empty s.line) h.0
    where
      by : (subsumed many blank : Bool) → (T (not subsumed) → T (not many) × T (not blank))
          → placed false subsumed many blank s held n ≡ running (elim subsumed [ true ↦ held | false ↦ held ++ (s ∷ []) ]) (n + 0)
      by true many blank g = ap (running held) (omega arith)
      by false true blank g = absurd (g tt).0
      by false false true g = absurd (g tt).1
      by false false false g = ap (running (held ++ (s ∷ []))) (omega arith)
  pass-one (made s) held n h = by (stops.at_line s.line) (covered s.line held) (stops.at_steps (length held)) (is_empty s.line)
      h.0 h.1
    where
      by : (w subsumed many blank : Bool) → T (not w) → (T (not subsumed) → T (not many) × T (not blank))
          → placed w subsumed many blank s held (suc n) ≡ running (elim subsumed [ true ↦ held | false ↦ held ++ (s ∷ []) ]) (n + 1)
      by true subsumed many blank w g = absurd w
      by false true many blank w g = ap (running held) (omega arith)
      by false false true blank w g = absurd (g tt).0
      by false false false true w g = absurd (g tt).1
      by false false false false w g = ap (running (held ++ (s ∷ []))) (omega arith)
  pass-one dropped held n h = ap (running held) (omega arith)

  pass_all : (xs : List Candidate) (held : List Step) (n : ℕ) → Passed stops held xs
      → run stops xs (running held n) ≡ running (keep held xs) (n + pairs xs)
  unfolding run keep pairs
  pass_all [] held n h = ap (running held) (omega arith)
  pass_all (part s ∷ xs) held n h =
      ap (run stops xs) (pass-one (part s) held n (h.0, tt)) ∙ pass_all xs (keep_one held s) (n + 0) h.1
      ∙ ap (running (keep (keep_one held s) xs)) (omega arith)
  pass_all (made s ∷ xs) held n h =
      ap (run stops xs) (pass-one (made s) held n (h.0, h.1, tt)) ∙ pass_all xs (keep_one held s) (n + 1) h.2
      ∙ ap (running (keep (keep_one held s) xs)) (omega arith)
  pass_all (dropped ∷ xs) held n h = ap (run stops xs) (pass-one dropped held n tt) ∙ pass_all xs held (n + 1) h
      ∙ ap (running (keep held xs)) (omega arith)

  stop-one : (e : End) (x : Candidate) (held : List Step) (n : ℕ) → Stopped stops e held x
      → one stops x held n ≡ ended e (proof_at stops e held x) (n + pairs (x ∷ []))
  unfolding one keep pairs add placed keep_one
  stop-one e dropped held n h = absurd h
  stop-one overflow (part s) held n h = absurd h
  stop-one out_of_steps (part s) held n h =
      rw (is_false (covered s.line held) h.0, is_true (stops.at_steps (length held)) h.1, placed)
      (ap (ended out_of_steps held) (omega arith))
  stop-one empty (part s) held n h =
      rw (
        is_false (covered s.line held) h.0,
        is_false (stops.at_steps (length held)) h.1,
        is_true (is_empty s.line) h.2,
        placed,
        keep_one,
      ) (ap (ended empty (held ++ (s ∷ []))) (omega arith))
  stop-one overflow (made s) held n h = rw (is_true (stops.at_line s.line) h, placed) (ap (ended overflow held) (omega arith))
  stop-one out_of_steps (made s) held n h =
      rw (
        is_false (stops.at_line s.line) h.0,
        is_false (covered s.line held) h.1.0,
        is_true (stops.at_steps (length held)) h.1.1,
        placed,
      ) (ap (ended out_of_steps held) (omega arith))
  stop-one empty (made s) held n h =
      rw (
        is_false (stops.at_line s.line) h.0,
        is_false (covered s.line held) h.1.0,
        is_false (stops.at_steps (length held)) h.1.1,
        is_true (is_empty s.line) h.1.2,
        placed,
        keep_one,
      ) (ap (ended empty (held ++ (s ∷ []))) (omega arith))

  pairs-append : (xs ys : List Candidate) → pairs (xs ++ ys) ≡ pairs xs + pairs ys
  unfolding pairs
  pairs-append [] ys = omega arith
  pairs-append (part s ∷ xs) ys = pairs-append xs ys
  pairs-append (made s ∷ xs) ys = omega (arith, pairs-append xs ys)
  pairs-append (dropped ∷ xs) ys = omega (arith, pairs-append xs ys)

  determined : (xs : List Candidate) (held : List Step) (n : ℕ) (state : State) → Takes stops xs held n state
      → state ≡ run stops xs (running held n)
  unfolding run
  determined xs held n (running steps m) h = (λ i. running (h.proof i) (h.count i)) ∙ sym (pass_all xs held n h.passed)
  determined xs held n (ended e steps m) h =
      let k = n + pairs h.done in
      let c : m ≡ k + pairs (h.last ∷ []) = omega (arith, h.count, pairs-append h.done (h.last ∷ [])) in
      (λ i. ended e (h.proof i) (c i))
      ∙ sym (run-ended stops e (proof_at stops e (keep held h.done) h.last) (k + pairs (h.last ∷ [])) h.rest)
      ∙ ap (run stops h.rest) (sym (stop-one e h.last (keep held h.done) k h.because))
      ∙ at-running h.last h.rest (keep held h.done) k
      ∙ ap (run stops (h.last ∷ h.rest)) (sym (pass_all h.done held n h.passed))
      ∙ sym (run-append stops h.done (h.last ∷ h.rest) (running held n))
      ∙ ap (λ (ys : List Candidate). run stops ys (running held n)) (sym h.split)
    where
      at-running : (x : Candidate) (xs : List Candidate) (held : List Step) (n : ℕ)
          → run stops xs (one stops x held n) ≡ run stops (x ∷ xs) (running held n)
      at-running x xs held n = refl

  -- ---- the lines that a round adds belong to later rounds, whatever proof its pairs are taken from
  module _ (P : Step → Type 0) where
    abbrev Of : Candidate → Type 0
    Of (part s) = P s
    Of (made s) = P s
    Of dropped = Unit {0}

    one-grown : (x : Candidate) (steps : List Step) (n : ℕ) → Of x → Grown P steps (steps_of (one stops x steps n))
    unfolding one steps_of
    one-grown (part s) steps n p = add-grown P stops false s steps n p
    one-grown (made s) steps n p = add-grown P stops (stops.at_line s.line) s steps (suc n) p
    one-grown dropped steps n p = grown-none P steps

    run-grown : (xs : List Candidate) (steps : List Step) (n : ℕ) → All Of xs → Grown P steps (steps_of (run stops xs (running steps n)))
    unfolding run steps_of
    run-grown [] steps n h = grown-none P steps
    run-grown (x ∷ xs) steps n h = after (one stops x steps n) (one-grown x steps n h.0) (λ mid k. run-grown xs mid k h.1)
      where
        after : (next : State) → Grown P steps (steps_of next)
            → ((mid : List Step) (k : ℕ) → Grown P mid (steps_of (run stops xs (running mid k))))
            → Grown P steps (steps_of (run stops xs next))
        after (running mid k) g f = grown-twice P g (f mid k)
        after (ended e mid k) g f = subst (λ (s : State). Grown P steps (steps_of s)) (sym (run-ended stops e mid k xs)) g

  module _ (variables : List Variable) (S : List Step) where
    made-late : (t : ℕ) (v : Variable) (p : Pair) (m : Option Line) → DroppedOr (λ r. t < round_of variables r) m
        → Of (Late variables t) (resolvent_or v p m)
    made-late t v p none h = tt
    made-late t v p (some l) h = h

    pairs-late : (t : ℕ) (v : Variable) → At variables t v → (ps : List Pair) → All (PairOf variables v t S) ps
        → All (Of (Late variables t)) (map (resolvent_at v) ps)
    pairs-late t v a [] h = tt
    pairs-late t v a (p ∷ ps) h = (
      made-late t v p (resolve v p.upper.line p.lower.line) (pair-later variables t v a S p h.0),
      pairs-late t v a ps h.1,
    )

    weaker : (t : ℕ) (x : Candidate) → Of (Late variables (suc t)) x → Of (Late variables t) x
    weaker t (part s) h = omega (arith, h)
    weaker t (made s) h = omega (arith, h)
    weaker t dropped h = tt

    resolvents-late : (t : ℕ) (vs : List Variable) → drop t variables ≡ vs → All (Of (Late variables t)) (resolvents_from variables t vs S)
    unfolding resolvents_from
    resolvents-late t [] e = tt
    resolvents-late t (v ∷ vs) e =
        all_append (Of (Late variables t)) (map (resolvent_at v) (round_pairs variables v t S)) (resolvents_from variables (suc t) vs S)
        (pairs-late t v (drop_at variables t v vs e) (round_pairs variables v t S) (round-pairs variables v t S))
        (all_map (Of (Late variables (suc t))) (Of (Late variables t)) (resolvents_from variables (suc t) vs S) (weaker t)
        (resolvents-late (suc t) vs (drop-next variables t v vs e)))

    rounds-only : (t : ℕ) (vs : List Variable) (steps : List Step) (n : ℕ) → drop t variables ≡ vs
        → S ≡ steps_of (run stops (resolvents_from variables t vs S) (running steps n))
        → run stops (resolvents_from variables t vs S) (running steps n) ≡ rounds stops variables t vs (running steps n)
    unfolding rounds resolvents_from run
    rounds-only t [] steps n e h = refl
    rounds-only t (v ∷ vs) steps n e h =
        let ps = round_pairs variables v t steps in
        let ys = resolvents_from variables (suc t) vs S in
        let g = subst (Grown (Late variables t) steps) (sym h)
        (run-grown (Late variables t) (resolvents_from variables t (v ∷ vs) S) steps n (resolvents-late t (v ∷ vs) e)) in
        let q = ap (λ (qs : List Pair). run stops (map (resolvent_at v) qs ++ ys) (running steps n)) (same-at-end variables t v steps S g)
        ∙ run-append stops (map (resolvent_at v) ps) ys (running steps n)
        ∙ ap (λ (s : State). run stops ys s) (sym (try-runs stops v ps (running steps n))) in
        q ∙ later (try_all stops v ps (running steps n)) (h ∙ ap steps_of q)
        (λ mid k i. rounds-only (suc t) vs mid k (drop-next variables t v vs e) i)
      where
        later : (next : State) → S ≡ steps_of (run stops (resolvents_from variables (suc t) vs S) next)
            → ((mid : List Step) (k : ℕ) → S ≡ steps_of (run stops (resolvents_from variables (suc t) vs S) (running mid k))
            → run stops (resolvents_from variables (suc t) vs S) (running mid k) ≡ rounds stops variables (suc t) vs (running mid k))
            → run stops (resolvents_from variables (suc t) vs S) next ≡ rounds stops variables (suc t) vs next
        later (running mid k) i f = f mid k i
        later (ended end mid k) i f = run-ended stops end mid k (resolvents_from variables (suc t) vs S)
            ∙ sym (rounds-ended stops end mid k variables (suc t) vs)

    rounds-alone : (start : State) → S ≡ steps_of (run stops (resolvents_from variables 0 variables S) start)
        → run stops (resolvents_from variables 0 variables S) start ≡ rounds stops variables 0 variables start
    rounds-alone (running mid k) h = rounds-only 0 variables mid k refl h
    rounds-alone (ended e mid k) h = run-ended stops e mid k (resolvents_from variables 0 variables S)
        ∙ sym (rounds-ended stops e mid k variables 0 variables)

pub exactly-one : (stops : Stops) (variables : List Variable) (parts : List Step) (state : State) → Exactly stops variables parts state
    → state ≡ eliminate stops variables parts
unfolding eliminate
exactly-one stops variables parts state h =
    let S = steps_of state in
    let ys = resolvents_from variables 0 variables S in
    let start = load stops parts (running [] 0) in
    let q : state ≡ run stops ys start = determined stops (candidates variables parts S) [] 0 state h
    ∙ run-append stops (map part parts) ys (running [] 0)
    ∙ ap (λ (s : State). run stops ys s) (sym (load-runs stops parts (running [] 0))) in
    q ∙ rounds-alone stops variables S start (ap steps_of q)
