-- Splitting a reading of a clause keeps the problem: it holds exactly if some values of its split variables make every part hold.
use Rattle.std.specs.Prelude.{◌↔◌, List, [], ℕ, ◌+◌, ◌-◌, ◌≤◌, ◌<◌, T}
use Rattle.std.proofs.Math.Option.{Option, none, some}
use Rattle.std.proofs.Common.{arith}
use Rattle.rules_types.specs.Limits as limit
use Rattle.theory_lists.specs.All.{All, all_map}
use Rattle.rules.specs.Readings.{Disjunction}
use Rattle.rules.specs.Meaning.{Assignment}
use Rattle.rules.specs.Lines.{Line, line_holds}
use Rattle.rules.specs.Normalize.{Normal, normal_clause}
use Rattle.rules.specs.Split.{reading_parts, reading_splits}
use Rattle.theory_lists.specs.Dropped.{DroppedOr}
use Rattle.theory_splitting.specs.WellFormed.{WellFormedConstraint, WellFormedReading}
use Rattle.theory_splitting.specs.NormalClause.{reading_holds, normal_holds, normal-clause-holds}
use Rattle.theory_splitting.specs.NormalForm.{Sized, NormalForm, normal-form}
use Rattle.theory_splitting.specs.Count.{normal_parts, normal_splits}
use Rattle.theory_splitting.specs.PartsGive.{parts-give}
use Rattle.theory_splitting.specs.PartsChosen.{Chosen, chosen-same, parts-chosen}
use Rattle.theory_splitting.specs.PartsForm.{LineForm, parts-form}

-- every line holds
abbrev pub AllHold : Assignment → List Line → Type 0
AllHold χ ls = All (λ l. T (line_holds χ l)) ls

chosen-from : (χ : Assignment) (k : ℕ) (o : Option Normal) → DroppedOr (NormalForm (λ i. i < k)) o
    → k + normal_splits o ≤ limit.all_booleans
    → DroppedOr (λ n. T (normal_holds χ n)) o
    → Chosen χ k (k + normal_splits o) (λ ψ. AllHold ψ (normal_parts k o))
chosen-from χ k none f z h = chosen-same χ k (k + 0) (λ ψ. AllHold ψ []) tt
chosen-from χ k (some n) f z h = parts-chosen χ k n f z h

give-from : (χ : Assignment) (k : ℕ) (o : Option Normal) → AllHold χ (normal_parts k o) → DroppedOr (λ n. T (normal_holds χ n)) o
give-from χ k none h = tt
give-from χ k (some n) h = parts-give χ k n h

form-from : (P : ℕ → Type 0) (k : ℕ) (o : Option Normal) → DroppedOr (NormalForm P) o → DroppedOr (NormalForm (λ i. i < k)) o
    → ((i : ℕ) → k ≤ i → i < k + normal_splits o → P i)
    → All (LineForm P) (normal_parts k o)
form-from P k none f w q = tt
form-from P k (some n) f w q = parts-form P k n f w.negative q

module _ (b r : ℕ) (c : Disjunction) (w : WellFormedReading b r c) where
  normal-within : (P : ℕ → Type 0) → ((i : ℕ) → i < b → P i) → DroppedOr (NormalForm P) (normal_clause c)
  normal-within P f =
      normal-form P c (all_map (λ l. l.boolean < b) (λ l. P l.boolean) c.literals (λ l h. f l.boolean h) w.literals)
      (all_map (WellFormedConstraint r) Sized c.constraints (λ d h. (h.coefficients, (h.amounts, h.bound))) w.constraints)

  reading-normal : b ≤ limit.all_booleans → (χ : Assignment) → 0 < χ.denominator → T (reading_holds χ c)
      ↔ DroppedOr (λ n. T (normal_holds χ n)) (normal_clause c)
  reading-normal z χ d =
      normal-clause-holds χ d c
      (all_map (λ l. l.boolean < b) (λ l. l.boolean < limit.all_booleans) c.literals (λ l h. omega arith) w.literals)

  pub reading-chosen : (χ : Assignment) → 0 < χ.denominator → (k : ℕ) → b ≤ k → k + reading_splits c ≤ limit.all_booleans
      → T (reading_holds χ c)
      → Chosen χ k (k + reading_splits c) (λ ψ. AllHold ψ (reading_parts k c))
  unfolding reading_parts reading_splits
  reading-chosen χ d k z s h =
      chosen-from χ k (normal_clause c) (normal-within (λ i. i < k) (λ i l. omega arith)) s ((reading-normal (omega arith) χ d).0 h)

  pub reading-given : (χ : Assignment) → 0 < χ.denominator → b ≤ limit.all_booleans → (k : ℕ) → AllHold χ (reading_parts k c)
      → T (reading_holds χ c)
  unfolding reading_parts
  reading-given χ d z k h = (reading-normal z χ d).1 (give-from χ k (normal_clause c) h)

  pub reading-form : (P : ℕ → Type 0) (k : ℕ) → b ≤ k → ((i : ℕ) → i < b → P i) → ((i : ℕ) → k ≤ i → i < k + reading_splits c → P i)
      → All (LineForm P) (reading_parts k c)
  unfolding reading_parts reading_splits
  reading-form P k z f q = form-from P k (normal_clause c) (normal-within P f) (normal-within (λ i. i < k) (λ i l. omega arith)) q
