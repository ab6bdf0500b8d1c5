-- Where a normal clause holds, some values of its split variables make every part hold: a variable is yes exactly if its part
-- fails without it.
use Rattle.std.specs.Prelude.{◌≡◌, refl, List, [], ◌∷◌, length}
use Rattle.std.proofs.Common.{sym, ◌∙◌, subst, arith}
use Rattle.std.proofs.Math.Bool.{Bool, true, false, not}
use Rattle.std.proofs.Math.Logic.{⊎_elim}
use Rattle.std.proofs.Math.Option.{none, some}
use Prim.Native.Nat.{ℕ, suc, ◌+◌, ◌-◌, ◌≤◌, ◌<◌}
use Rattle.std.proofs.Math.Dec.{T}
use Rattle.std.proofs.Math.Facts.{or_yes}
use Rattle.rules_types.specs.Limits as limit
use Rattle.theory_lists.specs.Tests.{clash, or_l, or_r, or_map, of-true, of-false}
use Rattle.theory_lists.specs.All.{All}
use Rattle.rules.specs.Lists.{any, put}
use Rattle.rules.specs.Problem.{Constraint}
use Rattle.rules.specs.Meaning.{Assignment, constraint_holds}
use Rattle.rules.specs.Lines.{Booleans, no_booleans, including, some_yes, the_constraint_holds, line_holds}
use Rattle.rules.specs.Normalize.{Normal}
use Rattle.rules.specs.Split.{chain, parts}
use Rattle.theory_vectors.specs.Put.{put_same, put_other}
use Rattle.theory_resolution.specs.Members.{length_none, yes-including}
use Rattle.theory_resolution.specs.Choosing.{choosing, line-choosing}
use Rattle.theory_splitting.specs.Choosing.{constraints-choosing}
use Rattle.theory_splitting.specs.NormalClause.{normal_holds}
use Rattle.theory_splitting.specs.NormalForm.{NormalForm, Below, below_none, below_split}
use Rattle.theory_splitting.specs.Parts.{part, whole, normal-cases, by-literals, by-constraints, part-cases, part-literal}
use Rattle.theory_splitting.specs.Parts.{part-constraint}

-- values for the Boolean variables from k to m - 1, under which the claim is true
pub record Chosen (χ : Assignment) (k m : ℕ) (Claim : Assignment → Type 0) : Type 0 where
  pub values : ℕ → Bool
  pub before : (i : ℕ) → i < k → χ.booleans i ≡ values i
  pub after : (i : ℕ) → m ≤ i → χ.booleans i ≡ values i
  pub holds : Claim (choosing values χ)

-- as they are
pub chosen-same : (χ : Assignment) (k m : ℕ) (Claim : Assignment → Type 0) → Claim χ → Chosen χ k m Claim
chosen-same χ k m Claim h = record { values = χ.booleans; before = λ i l. refl; after = λ i l. refl; holds = h }

pub included : (k : ℕ) (s : Booleans) (f : ℕ → Bool) → k < length s → T (f k) → T (some_yes (including k s) f)
included k s f z h = rw (yes-including k s f z) (or_l (f k) (some_yes s f) h)

pub others : (k : ℕ) (s : Booleans) (f : ℕ → Bool) → k < length s → T (some_yes s f) → T (some_yes (including k s) f)
others k s f z h = rw (yes-including k s f z) (or_r (f k) (some_yes s f) h)

module _ (χ : Assignment) (k : ℕ) (p n : Booleans) (c : Constraint) where
  abbrev without : Bool
  without = line_holds χ (part p n (some c))

  abbrev next : Bool → Assignment
  next b = choosing (put k (not b) χ.booleans) χ

  -- what is left for the later parts
  next-holds : (ds : List Constraint) (b : Bool) → without ≡ b → k < limit.all_booleans → T (normal_holds χ (whole p n (c ∷ ds)))
      → T (normal_holds (next b) (whole no_booleans (including k no_booleans) ds))
  unfolding any the_constraint_holds
  next-holds ds true e z h =
      let f : ℕ → Bool = λ i. not (put k false χ.booleans i) in
      by-literals (next true) no_booleans (including k no_booleans) ds
      (or_r (some_yes no_booleans (put k false χ.booleans)) (some_yes (including k no_booleans) f)
      (included k no_booleans f (omega (arith, length_none)) (rw (put_same k false χ.booleans) tt)))
  next-holds ds false e z h =
      let C = constraint_holds χ c in
      let D = any (constraint_holds χ) ds in
      let fails : T (not without) = of-false without e in
      by-constraints (next false) no_booleans (including k no_booleans) ds
      (rw (← constraints-choosing χ (put k true χ.booleans) ds)
      (⊎_elim (λ t. clash without (part-literal χ p n (some c) t) fails)
      (λ t. ⊎_elim (λ y. clash without (part-constraint χ p n (some c) y) fails) (λ y. y) (or_yes C D t)) (normal-cases χ p n (c ∷ ds) h)))

  -- the part with the variable
  this-holds : (g : ℕ → Bool) (b : Bool) → without ≡ b → not b ≡ g k → ((i : ℕ) → i < k → χ.booleans i ≡ g i)
      → k < length p → Below k p → Below k n
      → T (line_holds (choosing g χ) (part (including k p) n (some c)))
  this-holds g true e v a z wp wn =
      let ψ = choosing g χ in
      let P = some_yes p g in
      let N = some_yes n (λ i. not (g i)) in
      let h = subst T (line-choosing χ g (part p n (some c)) (λ i m. a i (wp i m)) (λ i m. a i (wn i m))) (of-true without e) in
      ⊎_elim (λ t. part-literal ψ (including k p) n (some c) (or_map P N (some_yes (including k p) g) N (others k p g z) (λ y. y) t))
      (part-constraint ψ (including k p) n (some c)) (part-cases ψ p n (some c) h)
  this-holds g false e v a z wp wn =
      part-literal (choosing g χ) (including k p) n (some c)
      (or_l (some_yes (including k p) g) (some_yes n (λ i. not (g i))) (included k p g z (subst T v tt)))

chain-chosen : (χ : Assignment) (k : ℕ) (p n : Booleans) (c : Constraint) (cs : List Constraint) → length p ≡ limit.all_booleans
    → k + length cs ≤ limit.all_booleans → Below k p → Below k n
    → T (normal_holds χ (whole p n (c ∷ cs)))
    → Chosen χ k (k + length cs) (λ ψ. All (λ l. T (line_holds ψ l)) (chain k p n c cs))
unfolding chain any the_constraint_holds
chain-chosen χ k p n c [] e z wp wn h =
    chosen-same χ k (k + 0) (λ ψ. All (λ l. T (line_holds ψ l)) (chain k p n c [])) (
      ⊎_elim (part-literal χ p n (some c)) (λ t. part-constraint χ p n (some c)
          (⊎_elim (λ y. y) (λ y. absurd y) (or_yes (constraint_holds χ c) false t))) (normal-cases χ p n (c ∷ []) h),
      tt,
    )
chain-chosen χ k p n c (d ∷ ds) e z wp wn h =
    let b = line_holds χ (part p n (some c)) in
    let r =
    chain-chosen (next χ k p n c b) (suc k) no_booleans (including k no_booleans) d ds length_none (omega arith)
    (below_none (suc k)) (below_split k)
    (next-holds χ k p n c (d ∷ ds) b refl (omega arith) h) in
    let a : (i : ℕ) → i < k → χ.booleans i ≡ r.values i = λ i l. sym (put_other k (not b) χ.booleans i (λ q. omega arith))
    ∙ r.before i (omega arith) in
    record {
      values = r.values;
      before = a;
      after = λ i l. sym (put_other k (not b) χ.booleans i (λ q. omega arith)) ∙ r.after i (omega arith);
      holds = (
        this-holds χ k p n c r.values b refl (sym (put_same k (not b) χ.booleans) ∙ r.before k (omega arith)) a
            (omega arith) wp wn,
        r.holds,
      );
    }

parts-of : (χ : Assignment) (k : ℕ) (p n : Booleans) (cs : List Constraint) → length p ≡ limit.all_booleans
    → k + (length cs - 1) ≤ limit.all_booleans → Below k p
    → Below k n → T (normal_holds χ (whole p n cs))
    → Chosen χ k (k + (length cs - 1)) (λ ψ. All (λ l. T (line_holds ψ l)) (parts k (whole p n cs)))
unfolding parts any
parts-of χ k p n [] e z wp wn h =
    chosen-same χ k (k + (0 - 1)) (λ ψ. All (λ l. T (line_holds ψ l)) (parts k (whole p n [])))
    (⊎_elim (part-literal χ p n none) (λ t. absurd t) (normal-cases χ p n [] h), tt)
parts-of χ k p n (c ∷ cs) e z wp wn h =
    let r = chain-chosen χ k p n c cs e (omega arith) wp wn h in
    record { values = r.values; before = r.before; after = λ i l. r.after i (omega arith); holds = r.holds }

pub parts-chosen : (χ : Assignment) (k : ℕ) (c : Normal) → NormalForm (λ i. i < k) c
    → k + (length c.constraints - 1) ≤ limit.all_booleans → T (normal_holds χ c)
    → Chosen χ k (k + (length c.constraints - 1)) (λ ψ. All (λ l. T (line_holds ψ l)) (parts k c))
parts-chosen χ k c f z h = parts-of χ k c.positive c.negative c.constraints f.positive-length z f.positive f.negative h
