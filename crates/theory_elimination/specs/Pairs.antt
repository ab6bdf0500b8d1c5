-- The pairs of a round: each is two lines of the proof, of that round, one with the round's variable positive and one with it negative.
use Rattle.std.specs.Prelude.{◌≡◌, refl, Bool, ◌&&◌, ℕ, suc, ◌+◌, T}
use mathlib.Core.List.{List, [], ◌∷◌, ◌++◌, map}
use Rattle.std.proofs.Common.{arith, eqb→eq}
use Rattle.std.proofs.Math.Dec.{eqb}
use Rattle.std.proofs.Math.Facts.{and_yes}
use Rattle.rules.specs.Lines.{Line, Variable, positively, negatively}
use Rattle.rules.specs.Steps.{Step}
use Rattle.rules.specs.Elimination.{Numbered, Pair, round_of, select, pair_up, side_of, round_pairs}
use Rattle.theory_lists.specs.Places.{AtPlace, place-append}
use Rattle.theory_lists.specs.All.{All, all_map, all_append, kept-one}

-- line i of the proof
abbrev pub LineAt : List Step → ℕ → Line → Type 0
LineAt steps i l = AtPlace (λ s. s.line ≡ l) steps i

-- ---- the lines that pass a test
pub record Selected (test : Line → Bool) (n : ℕ) (ss : List Step) (x : Numbered) : Type 0 where
  pub place : ℕ
  pub number : x.number ≡ n + place
  pub at : LineAt ss place x.line
  pub passes : T (test x.line)

module _ (test : Line → Bool) where
  later : (n : ℕ) (s : Step) (ss : List Step) (x : Numbered) → Selected test (suc n) ss x → Selected test n (s ∷ ss) x
  later n s ss x h = record { place = suc h.place; number = omega (arith, h.number); at = h.at; passes = h.passes }

  pub select-selected : (n : ℕ) (ss : List Step) → All (Selected test n ss) (select test n ss)
  unfolding select
  select-selected n [] = tt
  select-selected n (s ∷ ss) =
      kept-one (Selected test n (s ∷ ss)) (record { number = n; line = s.line }) (select test (suc n) ss) (test s.line)
      (λ h. record { place = 0; number = omega arith; at = refl; passes = h }) (all_map (Selected test (suc n) ss)
      (Selected test n (s ∷ ss)) (select test (suc n) ss) (later n s ss) (select-selected (suc n) ss))

-- ---- pairs
module _ (P Q : Numbered → Type 0) where
  with-upper : (u : Numbered) (ls : List Numbered) → P u → All Q ls → All (λ (p : Pair). P p.upper × Q p.lower) (map (λ l. record {
    upper = u;
    lower = l;
  }) ls)
  with-upper u [] h k = tt
  with-upper u (l ∷ ls) h k = ((h, k.0), with-upper u ls h k.1)

  pub pair_up-all : (us ls : List Numbered) → All P us → All Q ls → All (λ (p : Pair). P p.upper × Q p.lower) (pair_up us ls)
  unfolding pair_up
  pair_up-all [] ls h k = tt
  pair_up-all (u ∷ us) ls h k =
      all_append (λ (p : Pair). P p.upper × Q p.lower) (map (λ l. record { upper = u; lower = l }) ls) (pair_up us ls)
      (with-upper u ls h.0 k) (pair_up-all us ls h.1 k)

-- a line of round t that the proof holds, on one side of the round's variable
pub record Of (variables : List Variable) (v : Variable) (t : ℕ) (side : Variable → Line → Bool) (steps : List Step)
    (x : Numbered) : Type 0 where
  pub at : LineAt steps x.number x.line
  pub sided : T (side v x.line)
  pub round : round_of variables x.line ≡ t

pub record PairOf (variables : List Variable) (v : Variable) (t : ℕ) (steps : List Step) (p : Pair) : Type 0 where
  pub upper : Of variables v t positively steps p.upper
  pub lower : Of variables v t negatively steps p.lower

module _ (variables : List Variable) (v : Variable) (t : ℕ) where
  of-selected : (side : Variable → Line → Bool) (steps : List Step) (x : Numbered)
      → Selected (λ l. side v l && eqb (round_of variables l) t) 0 steps x → Of variables v t side steps x
  of-selected side steps x h =
      let r = and_yes (side v x.line) (eqb (round_of variables x.line) t) h.passes in
      let e : x.number ≡ h.place = omega (arith, h.number) in
      record { at = rw e h.at; sided = r.0; round = eqb→eq (round_of variables x.line) t r.1 }

  side-of : (side : Variable → Line → Bool) (steps : List Step) → All (Of variables v t side steps) (side_of side variables v t steps)
  unfolding side_of
  side-of side steps =
      all_map (Selected (λ l. side v l && eqb (round_of variables l) t) 0 steps) (Of variables v t side steps) (side_of side variables v t
      steps) (of-selected side steps) (select-selected (λ l. side v l && eqb (round_of variables l) t) 0 steps)

  pub round-pairs : (steps : List Step) → All (PairOf variables v t steps) (round_pairs variables v t steps)
  unfolding round_pairs
  round-pairs steps =
      all_map (λ (p : Pair). Of variables v t positively steps p.upper × Of variables v t negatively steps p.lower)
      (PairOf variables v t steps) (round_pairs variables v t steps) (λ p h. record {
        upper = h.0;
        lower = h.1;
      })
      (pair_up-all (Of variables v t positively steps) (Of variables v t negatively steps) (side_of positively variables v t steps)
      (side_of negatively variables v t steps) (side-of positively steps) (side-of negatively steps))

  -- they stay pairs while the proof grows
  of-append : (side : Variable → Line → Bool) (steps more : List Step) (x : Numbered) → Of variables v t side steps x
      → Of variables v t side (steps ++ more) x
  of-append side steps more x h = record {
    at = place-append (λ s. s.line ≡ x.line) steps more x.number h.at;
    sided = h.sided;
    round = h.round;
  }

  pub pair-append : (steps more : List Step) (p : Pair) → PairOf variables v t steps p → PairOf variables v t (steps ++ more) p
  pair-append steps more p h = record {
    upper = of-append positively steps more p.upper h.upper;
    lower = of-append negatively steps more p.lower h.lower;
  }
