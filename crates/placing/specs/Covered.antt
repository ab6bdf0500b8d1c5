-- Whether one of the first steps drops a line, from the last of them back.
use Rattle.std.specs.Prelude.{◌≡◌, false, ◌||◌, List}
use Rattle.std.proofs.Math.Path.{refl, ap}
use Rattle.std.proofs.Common.{◌∙◌}
use Rattle.std.proofs.Math.Bool.{Bool}
use Prim.Native.Nat.{ℕ, suc}
use Rattle.rules.specs.Lists.{any, tabulate}
use Rattle.rules.specs.Lines.{Line}
use Rattle.rules.specs.Steps.{Step}
use Rattle.rules.specs.Elimination.{drops, covered}
use Rattle.theory_lists.specs.Scan.{any_snoc}
use Rattle.theory_lists.specs.Tabulated.{tabulate-snoc}
use Rattle.lines.specs.Line.{meaning}
use Rattle.steps.specs.Places.{step_at}
use Rattle.steps.specs.Lines.{line_at}
use Rattle.steps.specs.Held.{step_from, steps_in}

module _ (l : Line) (proof : List ℕ) where
  pub covered_none : covered l (steps_in proof 0) ≡ false
  unfolding covered steps_in any tabulate
  covered_none = refl

  pub covered-last : (i : ℕ) → covered l (steps_in proof (suc i)) ≡ covered l (steps_in proof i) || drops (meaning (line_at proof i)) l
  unfolding covered steps_in step_from line_at
  covered-last i =
      let f : ℕ → Step = λ k. step_from (step_at proof k) in
      let dropping : Step → Bool = λ s. drops s.line l in
      ap (any dropping) (tabulate-snoc i f) ∙ any_snoc dropping (tabulate i f) (f i)
