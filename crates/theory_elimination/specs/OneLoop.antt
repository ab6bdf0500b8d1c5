-- The elimination as one loop over its candidates, and what that loop comes to.
use Rattle.std.specs.Prelude.{◌≡◌, Bool, not, ℕ, suc, ◌+◌, length, drop}
use Rattle.std.proofs.Math.Path.{refl, sym, ap, subst}
use Rattle.std.proofs.Common.{◌∙◌}
use Rattle.std.proofs.Math.Bool.{true, false}
use mathlib.Core.List.{List, [], ◌∷◌, ◌++◌, map}
use Rattle.std.proofs.Math.Option.{Option, none, some}
use native.Mathlib.Omega.{arith}
use Rattle.std.proofs.Math.Dec.{T}
use Rattle.rules.specs.Lines.{Line, Variable, is_empty}
use Rattle.rules.specs.Resolve.{resolve}
use Rattle.rules.specs.Steps.{Step}
use Rattle.rules.specs.Elimination.{Stops, End, empty, overflow, out_of_steps, State, running, ended, placed, covered, Pair, round_pairs}
use Rattle.rules.specs.Elimination.{add}
use Rattle.rules.specs.Elimination.{load, tried, try_all, rounds, eliminate}
use Rattle.rules.specs.Needs.{steps_of}
use Rattle.theory_saturation.specs.Rounds.{drop-next}
use Rattle.theory_elimination.specs.States.{rounds-ended}
use Rattle.theory_elimination.specs.Grown.{same-at-end, rounds-grown}
use Rattle.theory_elimination.specs.Exactly.{Candidate, part, made, dropped, resolvent_or, resolvent_at, resolvents_from, candidates}
use Rattle.theory_elimination.specs.Exactly.{keep_one, keep, pairs, Goes, Passed, New, Stopped, proof_at, Takes, Exactly}

module _ (stops : Stops) where
  unfoldable pub one : Candidate → List Step → ℕ → State
  one (part s) steps n = add stops false s steps n
  one (made s) steps n = add stops (stops.at_line s.line) s steps (suc n)
  one dropped steps n = running steps (suc n)

  unfoldable pub run : List Candidate → State → State
  run [] state = state
  run (x ∷ xs) (ended e steps n) = ended e steps n
  run (x ∷ xs) (running steps n) = run xs (one x steps n)

  pub run-ended : (e : End) (steps : List Step) (n : ℕ) (xs : List Candidate) → run xs (ended e steps n) ≡ ended e steps n
  unfolding run
  run-ended e steps n [] = refl
  run-ended e steps n (x ∷ xs) = refl

  pub run-append : (xs ys : List Candidate) (state : State) → run (xs ++ ys) state ≡ run ys (run xs state)
  unfolding run
  run-append [] ys state = refl
  run-append (x ∷ xs) ys (ended e steps n) = sym (run-ended e steps n ys)
  run-append (x ∷ xs) ys (running steps n) = run-append xs ys (one x steps n)

  -- ---- loading, a round, the rounds
  pub load-runs : (ss : List Step) (state : State) → load stops ss state ≡ run (map part ss) state
  unfolding load run one
  load-runs [] state = refl
  load-runs (s ∷ ss) (ended e steps n) = refl
  load-runs (s ∷ ss) (running steps n) = load-runs ss (add stops false s steps n)

  tried-one : (v : Variable) (p : Pair) (m : Option Line) (steps : List Step) (n : ℕ)
      → tried stops v p m steps (suc n) ≡ one (resolvent_or v p m) steps n
  unfolding tried one
  tried-one v p none steps n = refl
  tried-one v p (some l) steps n = refl

  pub try-runs : (v : Variable) (ps : List Pair) (state : State) → try_all stops v ps state ≡ run (map (resolvent_at v) ps) state
  unfolding try_all run
  try-runs v [] state = refl
  try-runs v (p ∷ ps) (ended e steps n) = refl
  try-runs v (p ∷ ps) (running steps n) =
      let m = resolve v p.upper.line p.lower.line in
      try-runs v ps (tried stops v p m steps (suc n)) ∙ ap (λ (s : State). run (map (resolvent_at v) ps) s) (tried-one v p m steps n)

  module _ (variables : List Variable) where
    abbrev end : ℕ → List Variable → State → State
    end t vs state = rounds stops variables t vs state

    abbrev SameRun : ℕ → List Variable → State → Type 0
    SameRun t vs state = end t vs state ≡ run (resolvents_from variables t vs (steps_of (end t vs state))) state

    later : (t : ℕ) (vs : List Variable) (next : State) → ((mid : List Step) (k : ℕ) → SameRun t vs (running mid k)) → SameRun t vs next
    later t vs (running mid k) f = f mid k
    later t vs (ended e mid k) f = rounds-ended stops e mid k variables t vs
        ∙ sym (run-ended e mid k (resolvents_from variables t vs (steps_of (end t vs (ended e mid k)))))

    -- the pairs of a round are the same among the lines at the end
    rounds-runs : (t : ℕ) (vs : List Variable) (steps : List Step) (n : ℕ) → drop t variables ≡ vs → SameRun t vs (running steps n)
    unfolding rounds resolvents_from run
    rounds-runs t [] steps n e = refl
    rounds-runs t (v ∷ vs) steps n e =
        let ps = round_pairs variables v t steps in
        let next = try_all stops v ps (running steps n) in
        let final = end (suc t) vs next in
        let same = same-at-end variables t v steps (steps_of final) (rounds-grown variables stops t (v ∷ vs) steps n e) in
        let ys = resolvents_from variables (suc t) vs (steps_of final) in
        later (suc t) vs next (λ mid k. rounds-runs (suc t) vs mid k (drop-next variables t v vs e))
        ∙ ap (λ (s : State). run ys s) (try-runs v ps (running steps n))
        ∙ sym (run-append (map (resolvent_at v) ps) ys (running steps n))
        ∙ ap (λ (qs : List Pair). run (map (resolvent_at v) qs ++ ys) (running steps n)) (sym same)

    rounds-run : (start : State) → SameRun 0 variables start
    rounds-run start = later 0 variables start (λ mid k. rounds-runs 0 variables mid k refl)

    eliminate-runs : (parts : List Step)
        → eliminate stops variables parts ≡ run (candidates variables parts (steps_of (eliminate stops variables parts))) (running [] 0)
    unfolding eliminate
    eliminate-runs parts =
        let start = load stops parts (running [] 0) in
        let ys = resolvents_from variables 0 variables (steps_of (end 0 variables start)) in
        rounds-run start ∙ ap (λ (s : State). run ys s) (load-runs parts (running [] 0))
        ∙ sym (run-append (map part parts) ys (running [] 0))

  -- ---- one loop takes up its candidates
  passed_first : (x : Candidate) (xs : List Candidate) (held : List Step) → Passed stops held (x ∷ [])
      → Passed stops (keep held (x ∷ [])) xs → Passed stops held (x ∷ xs)
  unfolding keep
  passed_first (part s) xs held p h = (p.0, h)
  passed_first (made s) xs held p h = (p.0, p.1, h)
  passed_first dropped xs held p h = h

  keep-first : (x : Candidate) (xs : List Candidate) (held : List Step) → keep (keep held (x ∷ [])) xs ≡ keep held (x ∷ xs)
  unfolding keep
  keep-first (part s) xs held = refl
  keep-first (made s) xs held = refl
  keep-first dropped xs held = refl

  pairs_first : (x : Candidate) (xs : List Candidate) → pairs (x ∷ xs) ≡ pairs (x ∷ []) + pairs xs
  unfolding pairs
  pairs_first (part s) xs = omega arith
  pairs_first (made s) xs = omega arith
  pairs_first dropped xs = omega arith

  first : (x : Candidate) (xs : List Candidate) (held : List Step) (n m : ℕ) (state : State) → Passed stops held (x ∷ [])
      → m ≡ n + pairs (x ∷ []) → Takes stops xs (keep held (x ∷ [])) m state → Takes stops (x ∷ xs) held n state
  first x xs held n m (running steps k) p e h =
      record {
        passed = passed_first x xs held p h.passed;
        proof = h.proof ∙ keep-first x xs held;
        count = omega (arith, h.count, e, pairs_first x xs);
      }
  first x xs held n m (ended end steps k) p e h =
      let i = keep-first x h.done held in
      record {
        done = x ∷ h.done;
        last = h.last;
        rest = h.rest;
        split = ap (λ (ys : List Candidate). x ∷ ys) h.split;
        passed = passed_first x h.done held p h.passed;
        because = subst (λ (now : List Step). Stopped stops end now h.last) i h.because;
        proof = h.proof ∙ ap (λ (now : List Step). proof_at stops end now h.last) i;
        count = omega (arith, h.count, e, pairs_first x (h.done ++ (h.last ∷ [])));
      }

  stop : (x : Candidate) (xs : List Candidate) (held : List Step) (n : ℕ) (e : End) (steps : List Step) (m : ℕ) → Stopped stops e held x
      → steps ≡ proof_at stops e held x → m ≡ n + pairs (x ∷ []) → Takes stops (x ∷ xs) held n (run xs (ended e steps m))
  unfolding keep
  stop x xs held n e steps m h b c =
      subst (Takes stops (x ∷ xs) held n) (sym (run-ended e steps m xs))
      (record { done = []; last = x; rest = xs; split = refl; passed = tt; because = h; proof = b; count = c })

  -- a line that does not overflow, as a part or as a resolvent
  module _ (x : Candidate) (xs : List Candidate) (s : Step) (held : List Step) (n m : ℕ)
      (passes : Goes stops held s → Passed stops held (x ∷ [])) (stopped : (e : End) → New stops e held s → Stopped stops e held x)
      (same : keep held (x ∷ []) ≡ keep_one held s) (count : m ≡ n + pairs (x ∷ []))
      (then : (held : List Step) → Takes stops xs held m (run xs (running held m))) where
    placed-takes : (subsumed many blank : Bool) → covered s.line held ≡ subsumed → stops.at_steps (length held) ≡ many
        → is_empty s.line ≡ blank → Takes stops (x ∷ xs) held n (run xs (placed false subsumed many blank s held m))
    unfolding placed keep_one
    placed-takes true many blank i j k =
        first x xs held n m (run xs (running held m)) (passes (λ h. absurd (rw i at h))) count
        (subst (λ (ss : List Step). Takes stops xs ss m (run xs (running held m))) (sym (same ∙ rw (i, keep_one))) (then held))
    placed-takes false true blank i j k = stop x xs held n out_of_steps held m (stopped out_of_steps (rw i tt, rw j tt)) refl count
    placed-takes false false true i j k = stop x xs held n empty (held ++ (s ∷ [])) m (stopped empty (rw i tt, rw j tt, rw k tt))
        (sym (same ∙ rw (i, keep_one))) count
    placed-takes false false false i j k =
        first x xs held n m (run xs (running (held ++ (s ∷ [])) m)) (passes (λ h. (rw j tt, rw k tt))) count
        (subst (λ (ss : List Step). Takes stops xs ss m (run xs (running (held ++ (s ∷ [])) m))) (sym (same ∙ rw (i, keep_one)))
        (then (held ++ (s ∷ []))))

  made-stopped : (s : Step) (held : List Step) → T (not (stops.at_line s.line)) → (e : End) → New stops e held s
      → Stopped stops e held (made s)
  made-stopped s held h overflow k = absurd k
  made-stopped s held h out_of_steps k = (h, k)
  made-stopped s held h empty k = (h, k)

  made-takes : (s : Step) (xs : List Candidate) (held : List Step) (n : ℕ)
      → ((held : List Step) → Takes stops xs held (suc n) (run xs (running held (suc n))))
      → (w : Bool) → stops.at_line s.line ≡ w → Takes stops (made s ∷ xs) held n (run xs (add stops w s held (suc n)))
  unfolding add placed keep pairs
  made-takes s xs held n then true i = stop (made s) xs held n overflow held (suc n) (rw i tt) refl (omega arith)
  made-takes s xs held n then false i =
      let h : T (not (stops.at_line s.line)) = rw i tt in
      placed-takes (made s) xs s held n (suc n) (λ g. (h, g, tt)) (made-stopped s held h) refl (omega arith) then
      (covered s.line held) (stops.at_steps (length held)) (is_empty s.line) refl refl refl

  takes : (xs : List Candidate) (held : List Step) (n : ℕ) → Takes stops xs held n (run xs (running held n))
  unfolding run one add keep pairs
  takes [] held n = record { passed = tt; proof = refl; count = omega arith }
  takes (part s ∷ xs) held n =
      placed-takes (part s) xs s held n n (λ g. (g, tt)) (λ e h. h) refl (omega arith) (λ held. takes xs held n) (covered s.line held)
      (stops.at_steps (length held)) (is_empty s.line) refl refl refl
  takes (made s ∷ xs) held n = made-takes s xs held n (λ held. takes xs held (suc n)) (stops.at_line s.line) refl
  takes (dropped ∷ xs) held n = first dropped xs held n (suc n) (run xs (running held (suc n))) tt (omega arith) (takes xs held (suc n))

pub elimination-exactly : (stops : Stops) (variables : List Variable) (parts : List Step)
    → Exactly stops variables parts (eliminate stops variables parts)
elimination-exactly stops variables parts =
    let xs = candidates variables parts (steps_of (eliminate stops variables parts)) in
    subst (Takes stops xs [] 0) (sym (eliminate-runs stops variables parts)) (takes stops xs [] 0)
