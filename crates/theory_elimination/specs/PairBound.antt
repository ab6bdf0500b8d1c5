-- Pairs: an elimination that ends with at most N lines has tried at most N × N / 4 pairs. A line has one round, so the uppers and lowers of
-- all rounds together are no more than the lines; u × l is at most the square of (u + l) / 2, and squares of summands add up to at most the
-- square of the whole.
use Rattle.std.specs.Prelude.{◌≡◌, true, cond, ◌&&◌, ℕ, suc, ◌+◌, ◌*◌, ◌/◌, ◌≤◌, leb}
use Rattle.std.proofs.Math.Path.{refl}
use Rattle.std.proofs.Common.{◌∙◌, subst, le_trans, eqb→eq, leb→le, le→leb, length-append}
use Rattle.std.proofs.Math.Bool.{Bool, false}
use mathlib.Core.List.{List, [], ◌∷◌, ◌++◌}
use Rattle.std.proofs.Math.Option.{Option, none, some}
use native.Mathlib.Omega.{arith}
use Rattle.std.proofs.Math.Dec.{T, eqb}
use Rattle.std.proofs.Math.ListN.{length}
use Rattle.std.proofs.lemmas.List.{length-map}
use Rattle.std.proofs.Math.Facts.{and_yes}
use Rattle.rules_types.specs.declared.limits.Limits.{Limits}
use Rattle.rules.specs.Lines.{Line, Variable, positively, negatively}
use Rattle.rules.specs.Resolve.{resolve}
use Rattle.rules.specs.Steps.{Step}
use Rattle.rules.specs.Elimination.{Stops, limited, State, running, ended, Numbered, Pair, round_of, select, pair_up, side_of, round_pairs}
use Rattle.rules.specs.Elimination.{add}
use Rattle.rules.specs.Elimination.{load, tried, try_all, rounds, eliminate}
use Rattle.rules.specs.Needs.{steps_of, pairs_of}
use Rattle.theory_lists.specs.All.{All, all_map, append-all, every}
use Rattle.theory_resolution.specs.Holds.{Consistent}
use Rattle.theory_elimination.specs.States.{add-cases}
use Rattle.theory_elimination.specs.Count.{count, count-append, count-length, count-apart, four-times, square-mono, squares}
use Rattle.theory_elimination.specs.Prefix.{prefix_trans, try-prefix, rounds-prefix}
use Rattle.theory_elimination.specs.Consistent.{consistent-one-side, elimination-consistent}
use Rattle.theory_elimination.specs.WithinLimits.{limited-held}
use Rattle.theory_elimination.specs.Induction.{resolvent_of}

-- ---- how many pairs a round has
select-length : (test : Line → Bool) (n : ℕ) (ss : List Step) → length (select test n ss) ≡ count (λ s. test s.line) ss
unfolding select count
select-length test n [] = refl
select-length test n (s ∷ ss) = by (test s.line) (select-length test (suc n) ss)
  where
    by : (b : Bool) → length (select test (suc n) ss) ≡ count (λ s. test s.line) ss
        → length {A = Numbered} (elim b [
          | true ↦ record { number = n; line = s.line } ∷ select test (suc n) ss
          | false ↦ select test
              (suc n) ss
        ]) ≡ cond b 1 0 + count (λ s. test s.line) ss
    by true e = omega arith
    by false e = omega arith

pair_up-length : (us ls : List Numbered) → length (pair_up us ls) ≡ length us * length ls
unfolding pair_up
pair_up-length [] ls = omega arith
pair_up-length (u ∷ us) ls = simp (length-append, length-map) (omega (arith, pair_up-length us ls))

-- ---- how many of them are tried
module _ (stops : Stops) where
  add-pairs : (w : Bool) (s : Step) (steps : List Step) (n : ℕ) → pairs_of (add stops w s steps n) ≡ n
  unfolding pairs_of
  add-pairs w s steps n =
      add-cases (λ state. pairs_of state ≡ n) s steps n stops w (λ w. refl) (λ k. refl) (λ m. refl) (λ m e. refl) (λ m e. refl)

  pub tried-pairs : (v : Variable) (p : Pair) (m : Option Line) (steps : List Step) (n : ℕ) → pairs_of (tried stops v p m steps n) ≡ n
  unfolding tried pairs_of
  tried-pairs v p none steps n = refl
  tried-pairs v p (some l) steps n = add-pairs (stops.at_line l) (resolvent_of v p l) steps n

  try-pairs : (v : Variable) (ps : List Pair) (state : State) → pairs_of (try_all stops v ps state) ≤ pairs_of state + length ps
  unfolding try_all pairs_of
  try-pairs v [] state = omega arith
  try-pairs v (p ∷ ps) (ended e steps n) = omega arith
  try-pairs v (p ∷ ps) (running steps n) =
      let m = resolve v p.upper.line p.lower.line in
      omega (arith, try-pairs v ps (tried stops v p m steps (suc n)), tried-pairs v p m steps (suc n))

  pub load-pairs : (ss : List Step) (state : State) → pairs_of (load stops ss state) ≡ pairs_of state
  unfolding load pairs_of
  load-pairs [] state = refl
  load-pairs (s ∷ ss) (ended e steps n) = refl
  load-pairs (s ∷ ss) (running steps n) = load-pairs ss (add stops false s steps n) ∙ add-pairs false s steps n

-- ---- a round's lines
module _ (variables : List Variable) where
  abbrev of_round : ℕ → Step → Bool
  of_round t s = eqb (round_of variables s.line) t

  abbrev from_round : ℕ → Step → Bool
  from_round t s = leb t (round_of variables s.line)

  -- uppers and lowers of round t are different lines of it
  sides : (v : Variable) (t : ℕ) (steps : List Step) → All (λ s. Consistent s.line) steps
      → length (side_of positively variables v t steps) + length (side_of negatively variables v t steps) ≤ count (of_round t) steps
  unfolding side_of
  sides v t steps h =
      let up : Step → Bool = λ s. positively v s.line && of_round t s in
      let low : Step → Bool = λ s. negatively v s.line && of_round t s in
      rw (
        select-length (λ l. positively v l && eqb (round_of variables l) t) 0 steps,
        select-length (λ l. negatively v l && eqb (round_of variables l) t) 0 steps,
      )
      (count-apart up low (of_round t) steps
      (all_map (λ s. Consistent s.line) (λ s. T (up s) → T (low s) → ⊥) steps (λ s c a b. consistent-one-side v s.line c
      (and_yes (positively v s.line) (of_round t s) a).0 (and_yes (negatively v s.line) (of_round t s) b).0) h)
      (λ s a. (and_yes (positively v s.line) (of_round t s) a).1)
      (λ s a. (and_yes (negatively v s.line) (of_round t s) a).1))

  -- a line from round t on is of round t or from the next one on
  part_of : (t : ℕ) (steps : List Step) → count (of_round t) steps + count (from_round (suc t)) steps ≤ count (from_round t) steps
  part_of t steps =
      count-apart (of_round t) (from_round (suc t)) (from_round t) steps
      (every (λ s. T (of_round t s) → T (from_round (suc t) s) → ⊥) steps
      (λ s a b. absurd (omega (arith, eqb→eq (round_of variables s.line) t a, leb→le (suc t) (round_of variables s.line) b))))
      (λ s a. le→leb t (round_of variables s.line) (omega (arith, eqb→eq (round_of variables s.line) t a)))
      (λ s a. le→leb t (round_of variables s.line) (omega (arith, leb→le (suc t) (round_of variables s.line) a)))

  -- 4 × the pairs of this round, and of the later ones
  step : (n mid final u l c c' m m' : ℕ) → mid ≤ n + u * l → u + l ≤ c → c ≤ c' → c' + m' ≤ m → 4 * final ≤ 4 * mid + m' * m'
      → 4 * final ≤ 4 * n + m * m
  step n mid final u l c c' m m' h k e g r =
      omega (arith, four-times u l, square-mono {a = u + l} {b = c'} (omega arith), squares c' m', square-mono g)

  module _ (stops : Stops) where
    rounds-pairs : (t : ℕ) (vs : List Variable) (state : State)
        → All (λ s. Consistent s.line) (steps_of (rounds stops variables t vs state))
        → 4 * pairs_of (rounds stops variables t vs state) ≤ 4 * pairs_of state + count (from_round t)
        (steps_of (rounds stops variables t vs state)) * count (from_round t) (steps_of (rounds stops variables t vs state))
    unfolding rounds pairs_of steps_of round_pairs
    rounds-pairs t [] state h = omega arith
    rounds-pairs t (v ∷ vs) (ended e steps n) h = omega arith
    rounds-pairs t (v ∷ vs) (running steps n) h =
        let us = side_of positively variables v t steps in
        let ls = side_of negatively variables v t steps in
        let ps = round_pairs variables v t steps in
        let mid = try_all stops v ps (running steps n) in
        let final = rounds stops variables (suc t) vs mid in
        let grown = prefix_trans steps mid final (try-prefix stops v ps (running steps n)) (rounds-prefix stops variables (suc t) vs mid) in
        let consistent = (append-all (λ s. Consistent s.line) steps grown.more
        (subst (All (λ s. Consistent s.line)) grown.is h)).0 in
        step n (pairs_of mid) (pairs_of final) (length us) (length ls) (count (of_round t) steps) (count (of_round t) (steps_of final))
        (count (from_round t) (steps_of final)) (count (from_round (suc t)) (steps_of final))
        (tried-most us ls n (pairs_of mid) (try-pairs stops v ps (running steps n))) (sides v t steps consistent)
        (more steps (steps_of final) grown.more grown.is) (part_of t (steps_of final)) (rounds-pairs (suc t) vs mid h)
      where
        tried-most : (us ls : List Numbered) (n mid : ℕ) → mid ≤ n + length (pair_up us ls) → mid ≤ n + length us * length ls
        tried-most us ls n mid h = rw (pair_up-length us ls) at h

        more : (steps all rest : List Step) → all ≡ steps ++ rest → count (of_round t) steps ≤ count (of_round t) all
        more steps all rest e = rw e (omega (arith, count-append (of_round t) steps rest))

-- ---- the theorem
quarter : (pairs N m : ℕ) → 4 * pairs ≤ m * m → m * m ≤ N * N → pairs ≤ N * N / 4
quarter pairs N m h k = omega arith

pub pairs-bound : (limits : Limits) (variables : List Variable) (parts : List Step) → All (λ s. Consistent s.line) parts
    → pairs_of (eliminate (limited limits) variables parts) ≤ limits.steps * limits.steps / 4
unfolding eliminate pairs_of
pairs-bound limits variables parts c =
    let start = load (limited limits) parts (running [] 0) in
    let final = rounds (limited limits) variables 0 variables start in
    let m = count (from_round variables 0) (steps_of final) in
    let none : pairs_of start ≡ 0 = load-pairs (limited limits) parts (running [] 0) in
    quarter (pairs_of final) limits.steps m (omega
    (arith, rounds-pairs variables (limited limits) 0 variables start (elimination-consistent (limited limits) variables parts c)))
    (square-mono (le_trans (count-length (from_round variables 0) (steps_of final)) (limited-held limits variables parts)))
