-- A round's lines with its variable on one side, found by their bytes and from number to number.
use Rattle.std.specs.Prelude.{◌≡◌, Bool, true, false, ◌&&◌, List, [], ◌∷◌, ℕ, suc, ◌+◌, ◌*◌, ◌≤◌, ◌<◌, eqb, drop}
use Rattle.std.proofs.Common.{sym, ◌∙◌, add-one, arith, drop_of_length-le}
use Rattle.std.proofs.Math.Path.{ap}
use Rattle.std.proofs.Math.ListN.{length}
use Rattle.rules_types.specs.Limits.{rationals, step_bytes}
use Rattle.rules_types.specs.Layout.{step_coefficients}
use Rattle.rules.specs.Bytes.{from_unsigned, field_at}
use Rattle.rules.specs.Lines as rules
use Rattle.rules.specs.Lines.{coefficient, positively, negatively}
use Rattle.rules.specs.Steps.{Step}
use Rattle.rules.specs.Elimination.{round_of, Numbered, select}
use Rattle.theory_lists.specs.Tabulated.{drop-tabulate}
use Rattle.lines.specs.declared.order.VariableRound.{VariableRound}
use Rattle.lines.specs.Order.{variable_of, variables_of}
use Rattle.lines.specs.Line.{meaning, Shaped}
use Rattle.lines.specs.Forms.{coefficient-is}
use Rattle.steps.specs.Places.{step_at, HasStep}
use Rattle.steps.specs.Lines.{line_at}
use Rattle.steps.specs.Fields.{coefficient-bytes}
use Rattle.steps.specs.Held.{step_from, steps_in, length-steps_in}

-- positive, an upper bound, or negative
unfoldable pub on_side : Bool → rules.Variable → rules.Line → Bool
on_side true v l = positively v l
on_side false v l = negatively v l

-- "its lines with it positive (upper bounds) are paired, in line order, with the lines with it negative"
unfoldable pub chosen : Bool → VariableRound → rules.Line → Bool
chosen upper current l = on_side upper (variable_of current.variable) l && eqb (round_of (variables_of current.order) l) current.number

-- ---- by their bytes
pub coefficient-side : (proof : List ℕ) (i : ℕ) → HasStep proof i → Shaped (line_at proof i) → (f : ℕ) → f < rationals
    → from_unsigned (field_at (step_bytes * i + (step_coefficients + 4 * f)) 4 proof) ≡ coefficient f (meaning (line_at proof i)).constraint
coefficient-side proof i room h f l = coefficient-bytes proof i room f l ∙ sym (coefficient-is (line_at proof i) h f)

-- ---- from number to number
-- a line of the proof with its number
abbrev pub numbered : List ℕ → ℕ → Numbered
numbered proof i = record { number = i; line = meaning (line_at proof i) }

-- the lines that pass a test, from number i on
unfoldable pub selected : (rules.Line → Bool) → List ℕ → ℕ → ℕ → List Numbered
selected test proof m i = select test i (drop i (steps_in proof m))

module _ (test : rules.Line → Bool) (i : ℕ) (s : Step) (ss : List Step) where
  select-first : test s.line ≡ true → select test i (s ∷ ss) ≡ record { number = i; line = s.line } ∷ select test (suc i) ss
  unfolding select
  select-first e = rw (e, select)

  select-skip : test s.line ≡ false → select test i (s ∷ ss) ≡ select test (suc i) ss
  unfolding select
  select-skip e = rw (e, select)

module _ (test : rules.Line → Bool) (proof : List ℕ) (m : ℕ) where
  first : (i : ℕ) → i < m → drop i (steps_in proof m) ≡ step_from (step_at proof i) ∷ drop (suc i) (steps_in proof m)
  unfolding steps_in
  first = drop-tabulate m (λ k. step_from (step_at proof k))

  pub selected-here : (i : ℕ) → i < m → test (meaning (line_at proof i)) ≡ true
      → selected test proof m i ≡ numbered proof i ∷ selected test proof m (i + 1)
  unfolding selected step_from line_at
  selected-here i h e =
      ap (select test i) (first i h)
      ∙ select-first test i (step_from (step_at proof i)) (drop (suc i) (steps_in proof m)) e
      ∙ ap (λ (k : ℕ). numbered proof i ∷ select test k (drop k (steps_in proof m))) (sym (add-one i))

  pub selected-past : (i : ℕ) → i < m → test (meaning (line_at proof i)) ≡ false → selected test proof m i ≡ selected test proof m (i + 1)
  unfolding selected step_from line_at
  selected-past i h e =
      ap (select test i) (first i h)
      ∙ select-skip test i (step_from (step_at proof i)) (drop (suc i) (steps_in proof m)) e
      ∙ ap (λ (k : ℕ). select test k (drop k (steps_in proof m))) (sym (add-one i))

  pub selected-end : (i : ℕ) → m ≤ i → selected test proof m i ≡ []
  unfolding selected select
  selected-end i h = let l : length (steps_in proof m) ≤ i = omega (arith, length-steps_in proof m) in
      ap (select test i) (drop_of_length-le (steps_in proof m) l)

-- the first one from a number on
pub record Next (proof : List ℕ) (m : ℕ) (test : rules.Line → Bool) (from r : ℕ) : Type 0 where
  pub behind : from ≤ r
  pub within : r ≤ m
  pub same : selected test proof m from ≡ selected test proof m r
  pub passes : r < m → test (meaning (line_at proof r)) ≡ true
