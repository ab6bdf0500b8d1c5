-- Splitting several readings one after another, each with split variables of its own: they hold exactly if some values of these make every
-- part hold.
use Rattle.std.specs.Prelude.{◌≡◌, Bool, ◌⊎◌, ℕ, ◌+◌, ◌≤◌, ◌<◌}
use Rattle.std.proofs.Common.{sym, ap, ◌∙◌, subst, ⊎_elim, arith}
use Rattle.std.proofs.Math.Logic.{inl, inr}
use mathlib.Core.List.{List, [], ◌∷◌, ◌++◌, append_assoc}
use Rattle.std.proofs.Math.Dec.{T}
use Rattle.std.proofs.Math.Facts.{or_yes}
use Rattle.rules_types.specs.Limits as limit
use Rattle.theory_lists.specs.All.{All, Any, all_map, all_any, all_both, all_append, append-all}
use Rattle.rules.specs.Problem.{Clause}
use Rattle.rules.specs.Readings.{Disjunction, readings}
use Rattle.rules.specs.Meaning.{Assignment}
use Rattle.rules.specs.Lines.{Line, line_holds, boolean, contains}
use Rattle.rules.specs.Split.{reading_parts, reading_splits, all_parts, all_splits, parts_of, splits_of}
use Rattle.theory_resolution.specs.Members.{has}
use Rattle.theory_resolution.specs.Variables.{contains-boolean}
use Rattle.theory_resolution.specs.Choosing.{choosing, line-choosing}
use Rattle.theory_splitting.specs.WellFormed.{WellFormedClause, WellFormedReading}
use Rattle.theory_splitting.specs.NormalClause.{reading_holds}
use Rattle.theory_splitting.specs.Readings.{readings-formed}
use Rattle.theory_splitting.specs.Choosing.{reading-choosing}
use Rattle.theory_splitting.specs.PartsChosen.{Chosen, chosen-same}
use Rattle.theory_splitting.specs.PartsForm.{LineForm}
use Rattle.theory_splitting.specs.SplitReading.{AllHold, reading-chosen, reading-given, reading-form}

-- ---- joined lists
pub splits-append : (ds es : List Disjunction) → all_splits (ds ++ es) ≡ all_splits ds + all_splits es
unfolding all_splits
splits-append [] es = omega arith
splits-append (d ∷ ds) es = omega (arith, splits-append ds es)

pub parts-append : (k : ℕ) (ds es : List Disjunction) → all_parts k (ds ++ es) ≡ all_parts k ds ++ all_parts (k + all_splits ds) es
unfolding all_parts all_splits
parts-append k [] es = let e : k ≡ k + 0 = omega arith in ap (λ (n : ℕ). all_parts n es) e
parts-append k (d ∷ ds) es =
    let m = k + reading_splits d in
    let e : m + all_splits ds ≡ k + (reading_splits d + all_splits ds) = omega arith in
    ap (λ (ls : List Line). reading_parts k d ++ ls) (parts-append m ds es ∙ ap (λ (n : ℕ). all_parts m ds ++ all_parts n es) e)
    ∙ sym (append_assoc (reading_parts k d) (all_parts m ds) (all_parts (k + (reading_splits d + all_splits ds)) es))

module _ (b r : ℕ) where
  -- ---- the form of the parts
  pub all-form : (P : ℕ → Type 0) (k : ℕ) (ds : List Disjunction) → All (WellFormedReading b r) ds → b ≤ k → ((i : ℕ) → i < b → P i)
      → ((i : ℕ) → k ≤ i → i < k + all_splits ds → P i)
      → All (LineForm P) (all_parts k ds)
  unfolding all_parts all_splits
  all-form P k [] w z f q = tt
  all-form P k (d ∷ ds) w z f q =
      all_append (LineForm P) (reading_parts k d) (all_parts (k + reading_splits d) ds)
      (reading-form b r d w.0 P k z f (λ i h l. q i h (omega arith)))
      (all-form P (k + reading_splits d) ds w.1 (omega arith) f (λ i h l. q i (omega arith) (omega arith)))

  -- what is true of the parts of each reading is true of all parts
  pub all-each : (Q : Line → Type 0) → ((k : ℕ) (d : Disjunction) → WellFormedReading b r d → All Q (reading_parts k d))
      → (k : ℕ) (ds : List Disjunction) → All (WellFormedReading b r) ds → All Q (all_parts k ds)
  unfolding all_parts
  all-each Q one k [] w = tt
  all-each Q one k (d ∷ ds) w =
      all_append Q (reading_parts k d) (all_parts (k + reading_splits d) ds) (one k d w.0) (all-each Q one (k + reading_splits d) ds w.1)

  -- ---- the readings give the parts: one after another, each choosing its own split variables
  module _ (χ : Assignment) (g : ℕ → Bool) (k : ℕ) (a : (i : ℕ) → i < k → χ.booleans i ≡ g i) where
    pub readings-keep : (ds : List Disjunction) → All (WellFormedReading b r) ds → b ≤ k → All (λ d. T (reading_holds χ d)) ds
        → All (λ d. T (reading_holds (choosing g χ) d)) ds
    readings-keep ds w z h =
        all_map (λ d. WellFormedReading b r d × T (reading_holds χ d)) (λ d. T (reading_holds (choosing g χ) d)) ds
        (λ d t. subst T (reading-choosing χ g d (all_map (λ l. l.boolean < b) (λ l. χ.booleans l.boolean ≡ g l.boolean)
        d.literals (λ l m. a l.boolean (omega arith)) t.0.literals)) t.1)
        (all_both (WellFormedReading b r) (λ d. T (reading_holds χ d)) ds w h)

    pub lines_keep : (ls : List Line) → All (LineForm (λ i. i < k)) ls → AllHold χ ls → AllHold (choosing g χ) ls
    lines_keep ls f h =
        all_map (λ l. LineForm (λ i. i < k) l × T (line_holds χ l)) (λ l. T (line_holds (choosing g χ) l)) ls
        (λ l t. subst T (line-choosing χ g l (λ i m. a i (t.0.positive i m)) (λ i m. a i (t.0.negative i m))) t.1)
        (all_both (LineForm (λ i. i < k)) (λ l. T (line_holds χ l)) ls f h)

  pub all-chosen : (χ : Assignment) → 0 < χ.denominator → (k : ℕ) (ds : List Disjunction) → All (WellFormedReading b r) ds → b ≤ k
      → k + all_splits ds ≤ limit.all_booleans → All (λ d. T (reading_holds χ d)) ds
      → Chosen χ k (k + all_splits ds) (λ ψ. AllHold ψ (all_parts k ds))
  unfolding all_parts all_splits
  all-chosen χ d k [] w z s h = chosen-same χ k (k + 0) (λ ψ. AllHold ψ []) tt
  all-chosen χ d k (x ∷ xs) w z s h =
      let m = k + reading_splits x in
      let one = reading-chosen b r x w.0 χ d k z (omega arith) h.0 in
      let ψ = choosing one.values χ in
      let more = all-chosen ψ d m xs w.1 (omega arith) (omega arith)
      (readings-keep χ one.values k one.before xs w.1 z h.1) in
      let form = reading-form b r x w.0 (λ i. i < m) k z (λ i l. omega arith) (λ i a l. l) in
      record {
        values = more.values;
        before = λ i l. one.before i l ∙ more.before i (omega arith);
        after = λ i l. one.after i (omega arith) ∙ more.after i (omega arith);
        holds =
            all_append (λ l. T (line_holds (choosing more.values χ) l)) (reading_parts k x) (all_parts m xs)
            (lines_keep ψ more.values m more.before (reading_parts k x) form one.holds) more.holds;
      }

  -- ---- the parts give the readings
  pub all-given : (χ : Assignment) → 0 < χ.denominator → b ≤ limit.all_booleans → (k : ℕ) (ds : List Disjunction)
      → All (WellFormedReading b r) ds → AllHold χ (all_parts k ds) → All (λ d. T (reading_holds χ d)) ds
  unfolding all_parts
  all-given χ d z k [] w h = tt
  all-given χ d z k (x ∷ xs) w h =
      let t = append-all (λ l. T (line_holds χ l)) (reading_parts k x) (all_parts (k + reading_splits x) xs) h in
      (reading-given b r x w.0 χ d z k t.0, all-given χ d z (k + reading_splits x) xs w.1 t.1)

-- ---- a clause: the Boolean variables of its parts are its own, and its split variables
module _ (b r : ℕ) (c : Clause) (w : WellFormedClause b r c) where
  abbrev Own : ℕ → ℕ → Type 0
  Own k i = (i < b) ⊎ ((k ≤ i) × (i < k + splits_of c))

  clause-variables : (k : ℕ) → b ≤ k → All (LineForm (Own k)) (parts_of k c)
  unfolding parts_of splits_of
  clause-variables k z = all-form b r (Own k) k (readings c) (readings-formed b r c w) z (λ i l. inl l) (λ i h l. inr (h, l))

  occurs-own : (k : ℕ) → b ≤ k → (i : ℕ) → Any (λ l. T (contains (boolean i) l)) (parts_of k c) → Own k i
  occurs-own k z i h =
      all_any (LineForm (Own k)) (λ l. T (contains (boolean i) l)) (parts_of k c)
      (λ l f m. ⊎_elim (f.positive i) (f.negative i)
      (or_yes (has l.positive i) (has l.negative i) (rw (contains-boolean i l) at m))) (clause-variables k z) h

-- so the split variables of different clauses never meet: what occurs in parts of both is a variable of the problem
pub splits-apart : (b r : ℕ) (x y : Clause) → WellFormedClause b r x → WellFormedClause b r y → (k m : ℕ) → b ≤ k → k + splits_of x ≤ m
    → (i : ℕ) → Any (λ l. T (contains (boolean i) l)) (parts_of k x) → Any (λ l. T (contains (boolean i) l)) (parts_of m y) → i < b
splits-apart b r x y v w k m z s i h g =
    ⊎_elim (λ l. l) (λ p. ⊎_elim (λ l. l) (λ q. absurd (omega arith)) (occurs-own b r y w m (omega arith) i g)) (occurs-own b r x v k z i h)
