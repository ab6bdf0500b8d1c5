-- A proof grows at its end, in each round by lines of later rounds alone; so the pairs of a round are the same at every later point.
use Rattle.std.specs.Prelude.{◌≡◌, not, ◌&&◌, ℕ, suc, ◌<◌, T, drop}
use Rattle.std.proofs.Math.Path.{refl, ap, subst}
use Rattle.std.proofs.Common.{sym, ◌∙◌, arith}
use Rattle.std.proofs.Math.Bool.{Bool, true, false}
use mathlib.Core.List.{List, [], ◌∷◌, ◌++◌, append_assoc, append-nil}
use Rattle.std.proofs.Math.Option.{Option, none, some}
use Rattle.std.proofs.Math.Dec.{eqb}
use Rattle.std.proofs.Math.Facts.{and_yes, eqb_yes, not_T}
use Rattle.rules.specs.Lines.{Line, Variable, positively, negatively}
use Rattle.rules.specs.Resolve.{resolve}
use Rattle.rules.specs.Steps.{Step}
use Rattle.rules.specs.Elimination.{Stops, State, running, ended, Numbered, Pair, round_of, select, side_of, round_pairs, add, tried}
use Rattle.rules.specs.Elimination.{try_all}
use Rattle.rules.specs.Elimination.{rounds}
use Rattle.rules.specs.Needs.{steps_of}
use Rattle.theory_lists.specs.Tests.{is_false}
use Rattle.theory_lists.specs.All.{All, all_map, all_append}
use Rattle.theory_lists.specs.Dropped.{DroppedOr}
use Rattle.theory_saturation.specs.Rounds.{At, drop_at, drop-next}
use Rattle.theory_saturation.specs.Covered.{resolve-later}
use Rattle.theory_elimination.specs.Pairs.{PairOf, round-pairs}
use Rattle.theory_elimination.specs.Induction.{PairsIn, tried-pairs, resolvent_of}
use Rattle.theory_elimination.specs.States.{add-steps, try-ended, rounds-ended}

-- ---- by steps of which P holds
module _ (P : Step → Type 0) where
  pub record Grown (steps now : List Step) : Type 0 where
    pub more : List Step
    pub is : now ≡ steps ++ more
    pub of : All P more

  pub grown-none : (steps : List Step) → Grown steps steps
  grown-none steps = record { more = []; is = sym (append-nil steps); of = tt }

  pub grown-twice : {steps mid now : List Step} → Grown steps mid → Grown mid now → Grown steps now
  grown-twice {steps} h g =
      record {
        more = h.more ++ g.more;
        is = let a = h.is in let b = g.is in cc (append_assoc steps h.more g.more);
        of = all_append P h.more g.more h.of g.of;
      }

  pub add-grown : (stops : Stops) (w : Bool) (s : Step) (steps : List Step) (n : ℕ) → P s → Grown steps (steps_of (add stops w s steps n))
  add-grown stops w s steps n p =
      add-steps (λ held. Grown steps held) stops w s steps n (grown-none steps) (λ m. record { more = s ∷ []; is = refl; of = (p, tt) })

grown-weaken : (P Q : Step → Type 0) → ((s : Step) → P s → Q s) → {steps now : List Step} → Grown P steps now → Grown Q steps now
grown-weaken P Q f g = record { more = g.more; is = g.is; of = all_map P Q g.more f g.of }

module _ (variables : List Variable) where
  abbrev pub Late : ℕ → Step → Type 0
  Late t s = t < round_of variables s.line

  -- ---- lines of later rounds are in no pair of this one
  select-same : (test : Line → Bool) (n : ℕ) (steps more : List Step) → All (λ s. T (not (test s.line))) more
      → select test n (steps ++ more) ≡ select test n steps
  unfolding select
  select-same test n [] [] h = refl
  select-same test n [] (s ∷ more) h = rw (is_false (test s.line) h.0, select) (select-same test (suc n) [] more h.1)
  select-same test n (s ∷ steps) more h =
      ap (λ (r : List Numbered). elim (test s.line) [ true ↦ record { number = n; line = s.line } ∷ r | false ↦ r ])
      (select-same test (suc n) steps more h)

  same-pairs : (t : ℕ) (v : Variable) (steps more : List Step) → All (Late t) more
      → round_pairs variables v t (steps ++ more) ≡ round_pairs variables v t steps
  unfolding round_pairs side_of
  same-pairs t v steps more h =
      rw (select-same (test positively) 0 steps more (never positively), select-same (test negatively) 0 steps more (never negatively))
    where
      test : (Variable → Line → Bool) → Line → Bool
      test side l = side v l && eqb (round_of variables l) t

      never : (side : Variable → Line → Bool) → All (λ s. T (not (test side s.line))) more
      never side =
          all_map (Late t) (λ s. T (not (test side s.line))) more
          (λ s k. not_T (test side s.line) (λ q. let e : round_of variables s.line ≡ t =
          eqb_yes (and_yes (side v s.line) (eqb (round_of variables s.line) t) q).1 in omega arith)) h

  pub same-at-end : (t : ℕ) (v : Variable) (steps now : List Step) → Grown (Late t) steps now
      → round_pairs variables v t now ≡ round_pairs variables v t steps
  same-at-end t v steps now g = ap (round_pairs variables v t) g.is ∙ same-pairs t v steps g.more g.of

  -- ---- a pair's resolvent belongs to a later round
  pub pair-later : (t : ℕ) (v : Variable) → At variables t v → (steps : List Step) (p : Pair) → PairOf variables v t steps p
      → DroppedOr (λ r. t < round_of variables r) (resolve v p.upper.line p.lower.line)
  pair-later t v a steps p k =
      resolve-later variables t v a p.upper.line p.lower.line (omega (arith, k.upper.round)) (omega (arith, k.lower.round))
      k.lower.sided

  -- ---- the rounds
  module _ (stops : Stops) where
    module _ (t : ℕ) (v : Variable) (a : At variables t v) where
      tried-grown : (p : Pair) (m : Option Line) (steps : List Step) (n : ℕ) → DroppedOr (λ r. t < round_of variables r) m
          → Grown (Late t) steps (steps_of (tried stops v p m steps n))
      unfolding tried steps_of
      tried-grown p none steps n h = grown-none (Late t) steps
      tried-grown p (some l) steps n h = add-grown (Late t) stops (stops.at_line l) (resolvent_of v p l) steps n h

      try-after : (ps : List Pair) (steps : List Step) (next : State) → PairsIn variables v t ps next → Grown (Late t) steps (steps_of next)
          → ((mid : List Step) (k : ℕ) → All (PairOf variables v t mid) ps
          → Grown (Late t) mid (steps_of (try_all stops v ps (running mid k))))
          → Grown (Late t) steps (steps_of (try_all stops v ps next))
      unfolding steps_of
      try-after ps steps (running mid k) h g f = grown-twice (Late t) g (f mid k h)
      try-after ps steps (ended e mid k) h g f =
          subst (λ (s : State). Grown (Late t) steps (steps_of s)) (sym (try-ended stops e mid k v ps)) g

      try-grown : (ps : List Pair) (steps : List Step) (n : ℕ) → All (PairOf variables v t steps) ps
          → Grown (Late t) steps (steps_of (try_all stops v ps (running steps n)))
      unfolding try_all steps_of
      try-grown [] steps n h = grown-none (Late t) steps
      try-grown (p ∷ ps) steps n h =
          let m = resolve v p.upper.line p.lower.line in
          try-after ps steps (tried stops v p m steps (suc n)) (tried-pairs variables v t ps stops p m steps (suc n) h.1)
          (tried-grown p m steps (suc n) (pair-later t v a steps p h.0)) (λ mid k q. try-grown ps mid k q)

    rounds-after : (t : ℕ) (vs : List Variable) (steps : List Step) (next : State) → Grown (Late t) steps (steps_of next)
        → ((mid : List Step) (k : ℕ) → Grown (Late (suc t)) mid (steps_of (rounds stops variables (suc t) vs (running mid k))))
        → Grown (Late t) steps (steps_of (rounds stops variables (suc t) vs next))
    unfolding steps_of
    rounds-after t vs steps (running mid k) g f =
        grown-twice (Late t) g (grown-weaken (Late (suc t)) (Late t) (λ s h. omega arith) (f mid k))
    rounds-after t vs steps (ended e mid k) g f =
        subst (λ (s : State). Grown (Late t) steps (steps_of s)) (sym (rounds-ended stops e mid k variables (suc t) vs)) g

    pub rounds-grown : (t : ℕ) (vs : List Variable) (steps : List Step) (n : ℕ) → drop t variables ≡ vs
        → Grown (Late t) steps (steps_of (rounds stops variables t vs (running steps n)))
    unfolding rounds steps_of
    rounds-grown t [] steps n e = grown-none (Late t) steps
    rounds-grown t (v ∷ vs) steps n e =
        let ps = round_pairs variables v t steps in
        rounds-after t vs steps (try_all stops v ps (running steps n))
        (try-grown t v (drop_at variables t v vs e) ps steps n (round-pairs variables v t steps))
        (λ mid k. rounds-grown (suc t) vs mid k (drop-next variables t v vs e))
