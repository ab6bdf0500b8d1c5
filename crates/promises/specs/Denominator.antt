-- "the common denominator (the least)": whatever number the rational variables on our model can be written over, the model's denominator
-- divides it. Our model is that of this assignment (`written` of OurModel).
use Rattle.std.specs.Prelude.{◌≡◌, List, ℕ, ◌-◌, ◌≤◌, ◌<◌}
use Rattle.std.proofs.Common.{⊎_elim, eq-zero-or-pos, arith}
use Rattle.std.specs.Int.{◌∣◌}
use Rattle.std.proofs.Math.IntN.{pos}
use Rattle.rules_types.specs.declared.terms.Edition.{Edition}
use Rattle.rules.specs.Problem.{Problem, in_edition}
use Rattle.rules.specs.Meaning.{Assignment}
use Rattle.rules.specs.Lines.{coefficient}
use Rattle.rules.specs.Steps.{Step}
use Rattle.rules.specs.Elimination.{unlimited, order_of, elimination}
use Rattle.rules.specs.Needs.{steps_of}
use Rattle.rules.specs.Values.{walk}
use Rattle.rules.specs.Calls.{sound, read}
use Rattle.theory_lists.specs.All.{all_map, all-mapped}
use Rattle.theory_splitting.specs.WellFormed.{WellFormed}
use Rattle.theory_splitting.specs.WellRead.{posed-well-formed}
use Rattle.theory_saturation.specs.Unbounded.{walk-zero}
use Rattle.theory_saturation.specs.Taken.{problem-ordered}
use Rattle.theory_saturation.specs.Least.{Over, over_zero, walk-least}
use Rattle.theory_elimination.specs.Saturated.{lines}
use Rattle.theory_elimination.specs.Narrow.{NarrowLine, elimination-narrow}
use Rattle.promises.specs.Satisfied.{chosen}
use Rattle.promises.specs.Words.{walk_of}

-- of r rational variables
abbrev pub LeastOf : ℕ → Assignment → Type 0
LeastOf r χ = (m : ℕ) → ((f : ℕ) → f < r → Over χ m f) → χ.denominator ∣ m

module _ (p : Problem) (w : WellFormed p) where
  abbrev b : ℕ
  b = p.booleans

  abbrev r : ℕ
  r = p.rationals

  -- ---- the walk's assignment: what the problem does not have is 0 in it
  abbrev steps : List Step
  steps = steps_of (elimination unlimited p)

  abbrev χ : Assignment
  χ = chosen p steps

  absent : (f : ℕ) → r ≤ f → χ.numerators f ≡ pos 0
  unfolding walk
  absent f l =
      walk-zero (order_of p) (lines steps) f
      (all-mapped (λ l. coefficient f l.constraint ≡ pos 0) (λ s. s.line) steps (all_map (λ s. NarrowLine r s.line)
      (λ s. coefficient f s.line.constraint ≡ pos 0) steps (λ s h. h f l) (elimination-narrow unlimited p w)))
      0 (order_of p)

  assignment-least : LeastOf r χ
  assignment-least m h = walk-least (order_of p) (problem-ordered p w.rationals).once (lines steps) m
      (λ f. ⊎_elim (λ z. over_zero χ m f (absent f (omega arith))) (λ z. h f (omega arith)) (eq-zero-or-pos (r - f)))

pub least-denominator : (edition : Edition) (input : List ℕ) {p : Problem} → read input ≡ sound p → let posed = in_edition edition p in
    LeastOf posed.rationals (walk_of posed).assignment
unfolding walk_of
least-denominator edition input {p} e = assignment-least (in_edition edition p) (posed-well-formed edition input p e)
