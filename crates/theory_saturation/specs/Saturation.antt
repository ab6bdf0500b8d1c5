-- Saturation: where every pair is dropped or covered, the walk backwards makes every line hold. By induction from the end of the order:
-- the lines of later rounds hold already, hence so does the resolvent of every pair of this round, and the rule makes this round's
-- lines hold.
use Rattle.std.specs.Prelude.{◌≡◌, refl, Bool, ℕ, suc, ◌≤◌, drop}
use Rattle.std.proofs.Common.{sym, subst, ⊎_elim, arith}
use mathlib.Core.List.{List, [], ◌∷◌}
use Rattle.std.proofs.Math.Dec.{T, eqb}
use Rattle.std.proofs.Math.ListN.{length}
use Rattle.std.proofs.Math.Facts.{eqb_yes, eqb_no}
use Rattle.rules.specs.Lists.{any, filter}
use Rattle.rules.specs.Meaning.{Assignment}
use Rattle.rules.specs.Lines.{Line, Variable, line_holds, contains}
use Rattle.rules.specs.Resolve.{resolve}
use Rattle.rules.specs.Elimination.{round_of}
use Rattle.rules.specs.Values.{assign, start, walk_from, walk}
use Rattle.theory_lists.specs.Tests.{split}
use Rattle.theory_lists.specs.All.{All, all_map, all_both, all_filter, Any, any-map}
use Rattle.theory_lists.specs.Dropped.{dropped-map}
use Rattle.theory_saturation.specs.Rule.{Rule}
use Rattle.theory_saturation.specs.Assign.{assign-rule}
use Rattle.theory_saturation.specs.Rounds.{At, drop_at, drop-next, drop-none, round-below, round-contains, round-before}
use Rattle.theory_saturation.specs.Covered.{Covers, PairDone, RoundDone, HoldFrom, round-holds}

-- every line contains a variable of the order, so that it has a round
abbrev pub HaveRounds : List Line → List Variable → Type 0
HaveRounds S variables = All (λ l. T (any (λ v. contains v l) variables)) S

-- of every round all pairs are dropped or found
abbrev pub AllPairs : (Line → Line → Type 0) → List Line → List Variable → Type 0
AllPairs R S variables = (t : ℕ) (v : Variable) → At variables t v → RoundDone R S variables t v

-- what is found by one relation is found by a wider one
pub all-pairs-map : (R Q : Line → Line → Type 0) → ((j r : Line) → R j r → Q j r) → (S : List Line) (variables : List Variable)
    → AllPairs R S variables → AllPairs Q S variables
all-pairs-map R Q f S variables pairs t v a =
    all_map (λ u. All (PairDone R S variables t v u) S) (λ u. All (PairDone Q S variables t v u) S) S
    (λ u h. all_map (PairDone R S variables t v u) (PairDone Q S variables t v u) S
    (λ l g eu el p n. dropped-map (λ r. Any (λ j. R j r) S) (λ r. Any (λ j. Q j r) S) (resolve v u l)
    (λ r k. any-map (λ j. R j r) (λ j. Q j r) S (λ j. f j r) k) (g eu el p n)) h) (pairs t v a)

pub record LinesHold (χ : Assignment) (S : List Line) : Type 0 where
  pub denominator : 1 ≤ χ.denominator
  pub lines : All (λ l. T (line_holds χ l)) S

-- the walk by any rule from an assignment on, the rounds from t on
unfoldable pub walk_by : (Variable → List Line → Assignment → Assignment) → Assignment → List Variable → List Line → ℕ → List Variable
    → Assignment
walk_by next χ₀ variables S t [] = χ₀
walk_by next χ₀ variables S t (v ∷ vs) = next v (filter (λ l. eqb (round_of variables l) t) S) (walk_by next χ₀ variables S (suc t) vs)

module _ (next : Variable → List Line → Assignment → Assignment) (rule : Rule next) (χ₀ : Assignment) (z₀ : 1 ≤ χ₀.denominator)
    (S : List Line) (variables : List Variable) where
  walk-denominator : (t : ℕ) (vs : List Variable) → 1 ≤ (walk_by next χ₀ variables S t vs).denominator
  unfolding walk_by
  walk-denominator t [] = z₀
  walk-denominator t (v ∷ vs) =
      rule.denominator v (filter (λ l. eqb (round_of variables l) t) S) (walk_by next χ₀ variables S (suc t) vs)
      (walk-denominator (suc t) vs)

  one-round : (t : ℕ) (v : Variable) (χ : Assignment) → 1 ≤ χ.denominator → At variables t v → RoundDone Covers S variables t v
      → HoldFrom variables (suc t) χ S → HoldFrom variables t (next v (filter (λ l. eqb (round_of variables l) t) S) χ) S
  one-round t v χ z a done h =
      let mine : Line → Bool = λ l. eqb (round_of variables l) t in
      let K = filter mine S in
      let χ' = next v K χ in
      let now = all_filter (λ l. T (contains v l) → T (line_holds χ' l)) mine S
      (rule.enough v K χ z (round-holds S variables t v χ z a done h)) in
      all_map (λ l. (T (mine l) → T (contains v l) → T (line_holds χ' l)) × (suc t ≤ round_of variables l → T (line_holds χ l)))
      (λ l. t ≤ round_of variables l → T (line_holds χ' l)) S
      (λ l f k. ⊎_elim (λ m. f.0 m (round-contains variables t v l a (eqb_yes m)))
      (λ m. let k' : suc t ≤ round_of variables l = omega (arith, eqb_no {a = round_of variables l} {b = t} m) in
      rw (rule.keeps v K χ z l (round-before variables t v l a k')) (f.1 k')) (split (mine l)))
      (all_both (λ l. T (mine l) → T (contains v l) → T (line_holds χ' l)) (λ l. suc t ≤ round_of variables l → T (line_holds χ l)) S now h)

  -- where the lines that belong to no round hold already
  module _ (placed : HoldFrom variables (length variables) χ₀ S) (pairs : AllPairs Covers S variables) where
    walk-holds : (t : ℕ) (vs : List Variable) → drop t variables ≡ vs → HoldFrom variables t (walk_by next χ₀ variables S t vs) S
    unfolding walk_by
    walk-holds t [] e =
        all_map (λ l. length variables ≤ round_of variables l → T (line_holds χ₀ l)) (λ l. t ≤ round_of variables l → T (line_holds χ₀ l)) S
        (λ l h k. h (omega (arith, drop-none variables t e))) placed
    walk-holds t (v ∷ vs) e =
        let a = drop_at variables t v vs e in
        one-round t v (walk_by next χ₀ variables S (suc t) vs) (walk-denominator (suc t) vs) a (pairs t v a)
        (walk-holds (suc t) vs (drop-next variables t v vs e))

    pub saturation-by : LinesHold (walk_by next χ₀ variables S 0 variables) S
    saturation-by =
        record {
          denominator = walk-denominator 0 variables;
          lines = all_map (λ l. 0 ≤ round_of variables l → T (line_holds (walk_by next χ₀ variables S 0 variables) l))
              (λ l. T (line_holds (walk_by next χ₀ variables S 0 variables) l)) S (λ l h. h (omega arith)) (walk-holds 0 variables refl);
        }

-- ---- 01's rule and walk
walk_is : (variables : List Variable) (S : List Line) (t : ℕ) (vs : List Variable)
    → (walk_from variables S t vs).assignment ≡ walk_by assign start variables S t vs
unfolding walk_from walk_by
walk_is variables S t [] = refl
walk_is variables S t (v ∷ vs) = rw (walk_is variables S (suc t) vs)

start-denominator : 1 ≤ start.denominator
unfolding start
start-denominator = omega arith

-- where every line has a round, none is left that belongs to no round
each_placed : (S : List Line) (variables : List Variable) → HaveRounds S variables → HoldFrom variables (length variables) start S
each_placed S variables placed =
    all_map (λ l. T (any (λ v. contains v l) variables)) (λ l. length variables ≤ round_of variables l → T (line_holds start l)) S
    (λ l h k. absurd (omega (arith, round-below variables l h))) placed

pub saturation : (S : List Line) (variables : List Variable) → HaveRounds S variables → AllPairs Covers S variables
    → LinesHold (walk variables S).assignment S
unfolding walk
saturation S variables placed pairs = subst (λ (χ : Assignment). LinesHold χ S) (sym (walk_is variables S 0 variables))
    (saturation-by assign assign-rule start start-denominator S variables (each_placed S variables placed) pairs)
