-- An elimination that runs to its end without an empty line: the walk's assignment satisfies the problem.
use Rattle.std.specs.Prelude.{◌≡◌, not, List, ℕ}
use Rattle.std.proofs.Math.Path.{subst}
use Rattle.std.proofs.Math.Dec.{T}
use Rattle.rules.specs.Problem.{Problem}
use Rattle.rules.specs.Meaning.{Assignment, Satisfies}
use Rattle.rules.specs.Lines.{line_holds, is_empty}
use Rattle.rules.specs.Steps.{Step}
use Rattle.rules.specs.Elimination.{Stops, State, running, order_of, loadable_of, eliminate}
use Rattle.rules.specs.Needs.{steps_of}
use Rattle.rules.specs.Values.{walk}
use Rattle.theory_lists.specs.All.{All, Any, all_map, all_any, all-mapped}
use Rattle.theory_resolution.specs.Formed.{Formed}
use Rattle.theory_resolution.specs.Proper.{ProperLine}
use Rattle.theory_splitting.specs.WellFormed.{WellFormed}
use Rattle.theory_splitting.specs.PartsChosen.{chosen-same}
use Rattle.theory_splitting.specs.SplitProblem.{StepsHold, splitting-keeps}
use Rattle.theory_saturation.specs.Covered.{Covers}
use Rattle.theory_saturation.specs.Drops.{Drops, drops-covers}
use Rattle.theory_saturation.specs.Saturation.{LinesHold, all-pairs-map}
use Rattle.theory_saturation.specs.Taken.{problem-ordered}
use Rattle.theory_saturation.specs.Formed.{saturation-formed}
use Rattle.theory_elimination.specs.Sound.{Sound, elimination-sound}
use Rattle.theory_elimination.specs.Ends.{EndsRight, elimination-ends}
use Rattle.theory_elimination.specs.Saturated.{lines}
use Rattle.theory_elimination.specs.Saturated.{elimination-loaded, elimination-saturated}

-- the assignment of the walk over these lines
abbrev pub chosen : Problem → List Step → Assignment
chosen p steps = (walk (order_of p) (lines steps)).assignment

module _ (p : Problem) (w : WellFormed p) (stops : Stops) (steps : List Step) (n : ℕ)
    (e : eliminate stops (order_of p) (loadable_of p) ≡ running steps n) where
  -- every line of the proof holds
  proof-holds : LinesHold (chosen p steps) (lines steps)
  unfolding steps_of
  proof-holds =
      let s = subst (λ (state : State). All (λ x. Sound x.line) (steps_of state)) e (elimination-sound p w stops (order_of p)) in
      saturation-formed (problem-ordered p w.rationals) (lines steps)
      (all-mapped Formed (λ x. x.line) steps (all_map (λ x. Sound x.line) (λ x. Formed x.line) steps (λ x h. h.formed) s))
      (all-mapped ProperLine (λ x. x.line) steps (all_map (λ x. Sound x.line) (λ x. ProperLine x.line) steps (λ x h. h.proper) s))
      (all-mapped (λ l. T (not (is_empty l))) (λ x. x.line) steps (subst EndsRight e (elimination-ends stops (order_of p) (loadable_of p))))
      (all-pairs-map Drops Covers drops-covers (lines steps) (order_of p)
      (elimination-saturated stops (order_of p) (loadable_of p) steps n e))

  -- so does every part, which one of them drops
  parts-hold : StepsHold (chosen p steps) (loadable_of p)
  parts-hold =
      let b = proof-holds in
      all_map (λ x. Any (λ j. Drops j x.line) (lines steps)) (λ x. T (line_holds (chosen p steps) x.line)) (loadable_of p)
      (λ x h. all_any (λ l. T (line_holds (chosen p steps) l)) (λ j. Drops j x.line) (lines steps)
      (λ j t d. (drops-covers j x.line d).gives (chosen p steps) b.denominator t) b.lines h)
      (elimination-loaded stops (order_of p) (loadable_of p) steps n e)

  pub walk-satisfies : Satisfies (chosen p steps) p
  walk-satisfies =
      (splitting-keeps p w (chosen p steps) proof-holds.denominator).1
      (chosen-same (chosen p steps) p.booleans _ (λ ψ. StepsHold ψ (loadable_of p)) parts-hold)
