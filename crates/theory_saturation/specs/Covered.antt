-- A resolvent that is dropped or covered holds where the later rounds' lines hold; so does that of every pair of a round that is done.
use Rattle.std.specs.Prelude.{◌≡◌, Bool, not, ◌⊎◌, List, ◌++◌, eqb}
use Rattle.std.proofs.Math.Option.{Option}
use Prim.Native.Nat.{ℕ, suc, ◌≤◌, ◌<◌}
use Rattle.std.proofs.Common.{arith}
use Rattle.std.proofs.Math.Dec.{T}
use Rattle.std.proofs.Math.Facts.{not_T, eqb_yes}
use Rattle.rules.specs.Lists.{filter}
use Rattle.rules.specs.Meaning.{Assignment}
use Rattle.rules.specs.Lines.{Line, Variable, line_holds, positively, negatively, contains}
use Rattle.rules.specs.Resolve.{resolvent, resolve}
use Rattle.rules.specs.Elimination.{round_of}
use Rattle.theory_lists.specs.Tests.{clash}
use Rattle.theory_lists.specs.All.{All, Any, all_any, all_map, any_left, filter-all}
use Rattle.theory_lists.specs.Dropped.{DroppedOr, dropped-map, dropped-both}
use Rattle.theory_resolution.specs.NormalLine.{normal-line-holds}
use Rattle.theory_resolution.specs.Variables.{resolve-variables, resolve-without}
use Rattle.theory_saturation.specs.Rule.{PairsHold}
use Rattle.theory_saturation.specs.Rounds.{At, round-later}

-- j says all that r says, of no other variables
pub record Covers (j r : Line) : Type 0 where
  pub only : (w : Variable) → T (contains w j) → T (contains w r)
  pub gives : (χ : Assignment) → 1 ≤ χ.denominator → T (line_holds χ j) → T (line_holds χ r)

-- a resolvent: dropped, or a line of S drops it, or covers it, or whatever R says
abbrev pub AccountedFor : (Line → Line → Type 0) → List Line → Option Line → Type 0
AccountedFor R S o = DroppedOr (λ r. Any (λ j. R j r) S) o

-- ---- of more lines
pub found-more : (R : Line → Line → Type 0) (S more : List Line) (o : Option Line) → AccountedFor R S o → AccountedFor R (S ++ more) o
found-more R S more o c =
    dropped-map (λ r. Any (λ j. R j r) S) (λ r. Any (λ j. R j r) (S ++ more)) o (λ r h. any_left (λ j. R j r) S more h) c

-- an upper and a lower of round t, whose variable is v: their resolvent is dropped or found in S
abbrev pub PairDone : (Line → Line → Type 0) → List Line → List Variable → ℕ → Variable → Line → Line → Type 0
PairDone R S variables t v u l = round_of variables u ≡ t → round_of variables l ≡ t → T (positively v u) → T (negatively v l)
    → AccountedFor R S (resolve v u l)

abbrev pub RoundDone : (Line → Line → Type 0) → List Line → List Variable → ℕ → Variable → Type 0
RoundDone R S variables t v = All (λ u. All (PairDone R S variables t v u) S) S

-- the lines from round t on hold
abbrev pub HoldFrom : List Variable → ℕ → Assignment → List Line → Type 0
HoldFrom variables t χ S = All (λ l. t ≤ round_of variables l → T (line_holds χ l)) S

-- ---- a resolvent belongs to a later round, and so does what covers it
module _ (variables : List Variable) (t : ℕ) (v : Variable) (a : At variables t v) (u l : Line) (hu : t ≤ round_of variables u)
    (hl : t ≤ round_of variables l) (n : T (negatively v l)) where
  -- of the parents' variables, without the round's
  abbrev Derived : Line → Type 0
  Derived r = ((w : Variable) → T (contains w r) → T (contains w u) ⊎ T (contains w l)) × T (not (contains v r))

  resolve-derived : DroppedOr Derived (resolve v u l)
  resolve-derived = dropped-both (λ r. (w : Variable) → T (contains w r) → T (contains w u) ⊎ T (contains w l))
      (λ r. T (not (contains v r))) (resolve v u l) (resolve-variables v u l) (resolve-without v u l n)

  later : (r : Line) → Derived r → t < round_of variables r
  later r d = round-later variables t v u l r a hu hl d.0 d.1

  covers-derived : (j r : Line) → Covers j r → Derived r → Derived j
  covers-derived j r c d = ((λ w h. d.0 w (c.only w h)), not_T (contains v j) (λ h. clash (contains v r) (c.only v h) d.1))

  pub resolve-later : DroppedOr (λ r. t < round_of variables r) (resolve v u l)
  resolve-later = dropped-map Derived (λ r. t < round_of variables r) (resolve v u l) later resolve-derived

  -- a line of a later round, which holds
  covered-holds : (S : List Line) (χ : Assignment) → 1 ≤ χ.denominator → HoldFrom variables (suc t) χ S
      → AccountedFor Covers S (resolve v u l)
      → T (line_holds χ (resolvent v u l))
  unfolding resolve
  covered-holds S χ z h c =
      (normal-line-holds χ z (resolvent v u l)).1
      (dropped-map (λ r. Derived r × Any (λ j. Covers j r) S) (λ r. T (line_holds χ r)) (resolve v u l)
      (λ r p. all_any (λ j. suc t ≤ round_of variables j → T (line_holds χ j)) (λ j. Covers j r) S
      (λ j k q. q.gives χ z (k (later j (covers-derived j r q p.0)))) h p.1)
      (dropped-both Derived (λ r. Any (λ j. Covers j r) S) (resolve v u l) resolve-derived c))

pub round-holds : (S : List Line) (variables : List Variable) (t : ℕ) (v : Variable) (χ : Assignment) → 1 ≤ χ.denominator → At variables t
    v → RoundDone Covers S variables t v → HoldFrom variables (suc t) χ S → PairsHold χ v (filter (λ l. eqb (round_of variables l) t) S)
round-holds S variables t v χ z a done h =
    let mine : Line → Bool = λ l. eqb (round_of variables l) t in
    let K = filter mine S in
    let is : (l : Line) → T (mine l) → round_of variables l ≡ t = λ l m. eqb_yes m in
    filter-all (λ u. All (λ l. T (positively v u) → T (negatively v l) → T (line_holds χ (resolvent v u l))) K) mine S
    (all_map (λ u. All (PairDone Covers S variables t v u) S)
    (λ u. T (mine u) → All (λ l. T (positively v u) → T (negatively v l) → T (line_holds χ (resolvent v u l))) K) S
    (λ u du mu. filter-all (λ l. T (positively v u) → T (negatively v l) → T (line_holds χ (resolvent v u l))) mine S
    (all_map (PairDone Covers S variables t v u)
    (λ l. T (mine l) → T (positively v u) → T (negatively v l) → T (line_holds χ (resolvent v u l))) S
    (λ l f ml p n. let eu = is u mu in let el = is l ml in
    covered-holds variables t v a u l (omega arith) (omega arith) n S χ z h (f eu el p n)) du)) done)
