-- Splitting keeps the problem: an assignment satisfies a problem exactly if some values of the split variables make every loadable
-- line hold.
use Rattle.std.specs.Prelude.{◌≡◌, refl, ◌↔◌, List, [], ◌∷◌, ◌++◌, map, ℕ, suc, ◌+◌, ◌≤◌, ◌<◌, T, take}
use Rattle.std.proofs.Common.{sym, ap, ◌∙◌, subst, arith}
use Rattle.rules_types.specs.Limits as limit
use Rattle.theory_lists.specs.All.{All, all_map, all_append, append-all, all_yes, yes-all, mapped-all, all-mapped, map-append}
use Rattle.theory_lists.specs.Places.{element-all}
use Rattle.rules.specs.Problem.{Clause, Problem}
use Rattle.rules.specs.Readings.{Disjunction, readings}
use Rattle.rules.specs.Meaning.{Assignment, clause_holds, Satisfies}
use Rattle.rules.specs.Lines.{Line, line_holds}
use Rattle.rules.specs.Split.{reading_parts, all_parts, all_splits, parts_of, splits_of}
use Rattle.rules.specs.Steps.{Step}
use Rattle.rules.specs.Elimination.{part_steps, loadable, loadable_of}
use Rattle.theory_splitting.specs.WellFormed.{WellFormedClause, WellFormedReading, splits_in, WellFormed}
use Rattle.theory_splitting.specs.NormalClause.{reading_holds}
use Rattle.theory_splitting.specs.Readings.{readings-formed}
use Rattle.theory_resolution.specs.Choosing.{choosing}
use Rattle.theory_splitting.specs.PartsChosen.{Chosen}
use Rattle.theory_splitting.specs.PartsForm.{LineForm}
use Rattle.theory_splitting.specs.SplitReading.{AllHold}
use Rattle.theory_splitting.specs.SplitReadings.{splits-append, parts-append, all-each, all-form, readings-keep, all-given}
use Rattle.theory_splitting.specs.SplitClauses.{clause-read, clauses-chosen}
use Rattle.theory_splitting.specs.Named.{PartAmong, loadable-parts}

-- every step's line holds
abbrev pub StepsHold : Assignment → List Step → Type 0
StepsHold χ ss = All (λ s. T (line_holds χ s.line)) ss

-- ---- the loadable lines are the parts of all readings
abbrev readings_of : List Clause → List Disjunction
readings_of [] = []
readings_of (x ∷ xs) = readings x ++ readings_of xs

all-splits : (xs : List Clause) → splits_in xs ≡ all_splits (readings_of xs)
unfolding splits_of all_splits
all-splits [] = refl
all-splits (x ∷ xs) = omega (arith, all-splits xs, splits-append (readings x) (readings_of xs))

part-lines : (c j : ℕ) (ls : List Line) → map (λ s. s.line) (part_steps c j ls) ≡ ls
unfolding part_steps
part-lines c j [] = refl
part-lines c j (l ∷ ls) = ap (λ (t : List Line). l ∷ t) (part-lines c (suc j) ls)

loadable-lines : (c k : ℕ) (xs : List Clause) → map (λ s. s.line) (loadable c k xs) ≡ all_parts k (readings_of xs)
unfolding loadable parts_of splits_of all_parts
loadable-lines c k [] = refl
loadable-lines c k (x ∷ xs) =
    map-append (λ s. s.line) (part_steps c 0 (parts_of k x)) (loadable (suc c) (k + splits_of x) xs)
    ∙ (λ i. part-lines c 0 (parts_of k x) i ++ loadable-lines (suc c) (k + splits_of x) xs i)
    ∙ sym (parts-append k (readings x) (readings_of xs))

module _ (b r : ℕ) where
  all-formed : (xs : List Clause) → All (WellFormedClause b r) xs → All (WellFormedReading b r) (readings_of xs)
  all-formed [] w = tt
  all-formed (x ∷ xs) w =
      all_append (WellFormedReading b r) (readings x) (readings_of xs) (readings-formed b r x w.0) (all-formed xs w.1)

  -- a clause holds if each of its readings does
  all_read : (χ : Assignment) (xs : List Clause) → All (WellFormedClause b r) xs → All (λ d. T (reading_holds χ d)) (readings_of xs)
      → All (λ x. T (clause_holds χ x)) xs
  all_read χ [] w h = tt
  all_read χ (x ∷ xs) w h =
      let t = append-all (λ d. T (reading_holds χ d)) (readings x) (readings_of xs) h in
      ((clause-read b r χ x w.0).1 t.0, all_read χ xs w.1 t.1)

-- ---- a problem
module _ (p : Problem) (w : WellFormed p) where
  abbrev ds : List Disjunction
  ds = readings_of p.clauses

  formed : All (WellFormedReading p.booleans p.rationals) ds
  formed = all-formed p.booleans p.rationals p.clauses w.clauses

  lines : map (λ s. s.line) (loadable_of p) ≡ all_parts p.booleans ds
  unfolding loadable_of
  lines = loadable-lines 0 p.booleans p.clauses

  few : p.booleans + all_splits ds ≤ limit.all_booleans
  few = omega (arith, all-splits p.clauses, w.booleans, w.splits)

  -- what is true of the parts is true of the loadable lines
  of_parts : (Q : Line → Type 0) → All Q (all_parts p.booleans ds) → All (λ s. Q s.line) (loadable_of p)
  of_parts Q h = mapped-all Q (λ s. s.line) (loadable_of p) (subst (All Q) (sym lines) h)

  pub loadable-each : (Q : Line → Type 0)
      → ((k : ℕ) (d : Disjunction) → WellFormedReading p.booleans p.rationals d → All Q (reading_parts k d))
      → All (λ s. Q s.line) (loadable_of p)
  loadable-each Q one = of_parts Q (all-each p.booleans p.rationals Q one p.booleans ds formed)

  pub loadable-formed : All (λ s. LineForm (λ i. i < limit.all_booleans) s.line) (loadable_of p)
  loadable-formed =
      of_parts (LineForm (λ i. i < limit.all_booleans))
      (all-form p.booleans p.rationals (λ i. i < limit.all_booleans) p.booleans ds formed (omega arith)
      (λ i l. omega (arith, w.booleans)) (λ i h l. omega (arith, few)))

  -- some values of the split variables make every part hold whose clause does, whether the other clauses hold or not
  pub splitting-holds : (χ : Assignment) → 1 ≤ χ.denominator
      → Chosen χ p.booleans (p.booleans + splits_in p.clauses)
      (λ ψ. (s : Step) (h : PartAmong 0 p.booleans p.clauses s) → T (clause_holds χ h.clause) → T (line_holds ψ s.line))
  splitting-holds χ d =
      let c = clauses-chosen p.booleans p.rationals χ d p.booleans p.clauses w.clauses (omega arith)
      (omega (arith, w.booleans, w.splits)) in
      record {
        values = c.values;
        before = c.before;
        after = c.after;
        holds = λ s h t.
            element-all (λ l. T (line_holds (choosing c.values χ) l))
            (parts_of (p.booleans + splits_in (take h.number p.clauses)) h.clause) h.part.part s.line h.part.at
            (c.holds h.number h.clause h.at t);
      }

  pub splitting-keeps : (χ : Assignment) → 1 ≤ χ.denominator → Satisfies χ p
      ↔ Chosen χ p.booleans (p.booleans + splits_in p.clauses) (λ ψ. StepsHold ψ (loadable_of p))
  splitting-keeps χ d =
      let b = p.booleans in
      let r = p.rationals in
      let xs = p.clauses in (
        λ h. let c = splitting-holds χ d in record {
          values = c.values;
          before = c.before;
          after = c.after;
          holds =
              all_map (PartAmong 0 b xs) (λ s. T (line_holds (choosing c.values χ) s.line)) (loadable_of p)
              (λ s m. c.holds s m (element-all (λ x. T (clause_holds χ x)) xs m.number m.clause m.at
              (all_yes (clause_holds χ) xs h.clauses))) (loadable-parts p);
        },
        λ c. record {
          denominator = d;
          clauses =
              let ψ = choosing c.values χ in
              yes-all (clause_holds χ) xs (all_read b r χ xs w.clauses
              (readings-keep b r ψ χ.booleans b (λ i l. sym (c.before i l)) ds formed (omega arith)
              (all-given b r ψ d (omega (arith, w.booleans)) b ds formed
              (subst (AllHold ψ) lines (all-mapped (λ l. T (line_holds ψ l)) (λ s. s.line) (loadable_of p) c.holds)))));
        },
      )
