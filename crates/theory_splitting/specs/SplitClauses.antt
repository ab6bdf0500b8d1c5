-- Splitting several clauses one after another, some of which hold: some values of their split variables make every part of these hold,
-- whatever becomes of the others.
use Rattle.std.specs.Prelude.{◌≡◌, Bool, ◌↔◌, List, [], ◌∷◌, ℕ, zero, suc, ◌+◌, ◌≤◌, ◌<◌, take}
use Rattle.std.proofs.Common.{sym, ◌∙◌, subst, arith}
use Rattle.std.proofs.Math.Logic.{⊎_elim}
use Rattle.std.proofs.Math.Option.{some}
use Rattle.std.proofs.Math.Dec.{T}
use Rattle.std.proofs.Math.ListN.{get_elem?}
use Rattle.rules_types.specs.Limits as limit
use Rattle.theory_lists.specs.Tests.{split, clash}
use Rattle.theory_lists.specs.All.{All, all_yes, yes-all}
use Rattle.theory_lists.specs.Places.{element-all}
use Rattle.rules.specs.Problem.{Clause}
use Rattle.rules.specs.Readings.{readings}
use Rattle.rules.specs.Meaning.{Assignment, clause_holds}
use Rattle.rules.specs.Split.{parts_of, splits_of}
use Rattle.theory_resolution.specs.Choosing.{choosing}
use Rattle.theory_splitting.specs.WellFormed.{WellFormedClause, splits_in}
use Rattle.theory_splitting.specs.NormalClause.{reading_holds}
use Rattle.theory_splitting.specs.Readings.{clause-readings, readings-formed}
use Rattle.theory_splitting.specs.PartsChosen.{Chosen, chosen-same}
use Rattle.theory_splitting.specs.SplitReading.{AllHold}
use Rattle.theory_splitting.specs.SplitReadings.{all-form, readings-keep, lines_keep, all-chosen}

-- each of these clauses that holds under χ has parts that hold under ψ; the first has split variables from k on
abbrev pub HeldParts : Assignment → ℕ → List Clause → Assignment → Type 0
HeldParts χ k xs ψ = (n : ℕ) (x : Clause) → get_elem? xs n ≡ some x → T (clause_holds χ x)
    → AllHold ψ (parts_of (k + splits_in (take n xs)) x)

module _ (b r : ℕ) where
  -- "a clause holds exactly if each of its readings does"
  pub clause-read : (χ : Assignment) (x : Clause) → WellFormedClause b r x
      → T (clause_holds χ x) ↔ All (λ d. T (reading_holds χ d)) (readings x)
  clause-read χ x w =
      let e = clause-readings χ x w.single in (
        λ h. all_yes (reading_holds χ) (readings x) (subst T e h),
        λ h. subst T (sym e) (yes-all (reading_holds χ) (readings x) h),
      )

  -- ---- one
  clause-chosen : (χ : Assignment) → 0 < χ.denominator → (k : ℕ) (x : Clause) → WellFormedClause b r x → b ≤ k
      → k + splits_of x ≤ limit.all_booleans → Chosen χ k (k + splits_of x) (λ ψ. T (clause_holds χ x) → AllHold ψ (parts_of k x))
  unfolding parts_of splits_of
  clause-chosen χ d k x w z s =
      ⊎_elim
      (λ t. let c = all-chosen b r χ d k (readings x) (readings-formed b r x w) z s ((clause-read χ x w).0 t) in
      record { values = c.values; before = c.before; after = c.after; holds = λ h. c.holds })
      (λ t. chosen-same χ k (k + splits_of x) (λ ψ. T (clause_holds χ x) → AllHold ψ (parts_of k x))
      (λ h. absurd (clash (clause_holds χ x) h t))) (split (clause_holds χ x))

  -- values of later variables leave it as it is
  module _ (χ : Assignment) (g : ℕ → Bool) (k : ℕ) (a : (i : ℕ) → i < k → χ.booleans i ≡ g i) (x : Clause)
      (w : WellFormedClause b r x) where
    clause-keeps : b ≤ k → T (clause_holds χ x) → T (clause_holds (choosing g χ) x)
    clause-keeps z h =
        (clause-read (choosing g χ) x w).1
        (readings-keep b r χ g k a (readings x) (readings-formed b r x w) z ((clause-read χ x w).0 h))

    parts-keep : (j : ℕ) → b ≤ j → j + splits_of x ≤ k → AllHold χ (parts_of j x) → AllHold (choosing g χ) (parts_of j x)
    unfolding parts_of splits_of
    parts-keep j z s h =
        lines_keep b r χ g k a (parts_of j x)
        (all-form b r (λ i. i < k) j (readings x) (readings-formed b r x w) z (λ i l. omega arith) (λ i m l. omega arith)) h

  -- ---- several: a first clause with values of its own, and later ones with theirs
  both-held : (χ : Assignment) (k : ℕ) (x : Clause) (xs : List Clause) → All (WellFormedClause b r) (x ∷ xs) → b ≤ k
      → (one : Chosen χ k (k + splits_of x) (λ ψ. T (clause_holds χ x) → AllHold ψ (parts_of k x)))
      (more : Chosen (choosing one.values χ) (k + splits_of x) (k + splits_of x + splits_in xs)
      (HeldParts (choosing one.values χ) (k + splits_of x) xs))
      → HeldParts χ k (x ∷ xs) (choosing more.values χ)
  both-held χ k x xs w z one more zero y e h =
      let q : x ≡ y = cc in
      let f : k + 0 ≡ k = omega arith in
      rw (f, ← q) (parts-keep (choosing one.values χ) more.values (k + splits_of x) more.before x w.0 k z (omega arith)
      (one.holds (rw (← q) at h)))
  both-held χ k x xs w z one more (suc n) y e h =
      let f : k + (splits_of x + splits_in (take n xs)) ≡ k + splits_of x + splits_in (take n xs) = omega arith in
      rw f (more.holds n y e
      (clause-keeps χ one.values k one.before y (element-all (WellFormedClause b r) xs n y e w.1) z h))

  pub clauses-chosen : (χ : Assignment) → 0 < χ.denominator → (k : ℕ) (xs : List Clause) → All (WellFormedClause b r) xs → b ≤ k
      → k + splits_in xs ≤ limit.all_booleans → Chosen χ k (k + splits_in xs) (HeldParts χ k xs)
  clauses-chosen χ d k [] w z s =
      chosen-same χ k (k + 0) (HeldParts χ k []) (λ n x e h. absurd (let y : ◌≡◌ {A = ℕ} 0 1 = cc in omega arith))
  clauses-chosen χ d k (x ∷ xs) w z s =
      let m = k + splits_of x in
      let one = clause-chosen χ d k x w.0 z (omega arith) in
      let ψ = choosing one.values χ in
      let more = clauses-chosen ψ d m xs w.1 (omega arith) (omega arith) in
      record {
        values = more.values;
        before = λ i l. one.before i l ∙ more.before i (omega arith);
        after = λ i l. one.after i (omega arith) ∙ more.after i (omega arith);
        holds = both-held χ k x xs w z one more;
      }
