-- The pairs that a round tries are all of its pairs: where each of them is dropped or found, every upper and lower of the round is.
use Rattle.std.specs.Prelude.{Bool, ◌&&◌, List, [], ◌∷◌, map, ℕ, suc, T, eqb}
use Rattle.std.proofs.Common.{⊎_elim}
use Rattle.std.proofs.Math.Facts.{yes_and, yes_eqb}
use Rattle.rules.specs.Lines.{Line, Variable, positively, negatively}
use Rattle.rules.specs.Resolve.{resolve}
use Rattle.rules.specs.Steps.{Step}
use Rattle.rules.specs.Elimination.{round_of, Numbered, Pair, select, pair_up, side_of}
use Rattle.theory_lists.specs.Tests.{split, clash}
use Rattle.theory_lists.specs.All.{All, all_map, append-all, one_kept, every, mapped-all}
use Rattle.theory_saturation.specs.Covered.{AccountedFor, PairDone}

pairs-all : (P : Pair → Type 0) (us ls : List Numbered) → All P (pair_up us ls)
    → All (λ u. All (λ l. P (record { upper = u; lower = l })) ls) us
unfolding pair_up
pairs-all P [] ls h = tt
pairs-all P (u ∷ us) ls h =
    let r = append-all P (map (λ l. record { upper = u; lower = l }) ls) (pair_up us ls) h in
    (mapped-all P (λ l. record { upper = u; lower = l }) ls r.0, pairs-all P us ls r.1)

select-all : (P : Line → Type 0) (test : Line → Bool) (n : ℕ) (steps : List Step) → All (λ x. P x.line) (select test n steps)
    → All (λ l. T (test l) → P l) (map (λ s. s.line) steps)
unfolding select
select-all P test n [] h = tt
select-all P test n (s ∷ ss) h =
    let r = one_kept (λ x. P x.line) (record { number = n; line = s.line }) (select test (suc n) ss) (test s.line) h in
    (r.0, select-all P test (suc n) ss r.1)

pub pairs-tried : (R : Line → Line → Type 0) (variables : List Variable) (t : ℕ) (v : Variable) (C : List Line) (steps : List Step)
    → All (λ p. AccountedFor R C (resolve v p.upper.line p.lower.line))
    (pair_up (side_of positively variables v t steps) (side_of negatively variables v t steps))
    → All (λ u. All (PairDone R C variables t v u) (map (λ s. s.line) steps)) (map (λ s. s.line) steps)
unfolding side_of
pairs-tried R variables t v C steps h =
    let S = map (λ s. s.line) steps in
    let up : Line → Bool = λ l. positively v l && eqb (round_of variables l) t in
    let low : Line → Bool = λ l. negatively v l && eqb (round_of variables l) t in
    all_map (λ u. T (up u) → All (λ l. T (low l) → AccountedFor R C (resolve v u l)) S) (λ u. All (PairDone R C variables t v u) S) S
    (λ u f. ⊎_elim
    (λ k. all_map (λ l. T (low l) → AccountedFor R C (resolve v u l)) (PairDone R C variables t v u) S
    (λ l g eu el p n. g (yes_and (negatively v l) (eqb (round_of variables l) t) n (yes_eqb el))) (f k))
    (λ k. every (PairDone R C variables t v u) S
    (λ l eu el p n. clash (up u) (yes_and (positively v u) (eqb (round_of variables u) t) p (yes_eqb eu)) k)) (split (up u)))
    (select-all (λ u. All (λ l. T (low l) → AccountedFor R C (resolve v u l)) S) up 0 steps
    (all_map (λ u. All (λ l. AccountedFor R C (resolve v u.line l.line)) (select low 0 steps))
    (λ u. All (λ l. T (low l) → AccountedFor R C (resolve v u.line l)) S) (select up 0 steps)
    (λ u k. select-all (λ l. AccountedFor R C (resolve v u.line l)) low 0 steps k)
    (pairs-all (λ p. AccountedFor R C (resolve v p.upper.line p.lower.line)) (select up 0 steps) (select low 0 steps) h)))
