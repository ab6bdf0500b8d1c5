-- Without limits an elimination has an empty line exactly if no assignment satisfies its problem; otherwise the walk's assignment does.
use Rattle.std.specs.Prelude.{◌≡◌, refl, ◌↔◌, List, ℕ}
use Rattle.std.proofs.Common.{sym, ◌∙◌, subst}
use Rattle.rules.specs.Problem.{Problem}
use Rattle.rules.specs.Meaning.{Assignment, Satisfies}
use Rattle.rules.specs.Steps.{Step}
use Rattle.rules.specs.Elimination.{Stops, unlimited, State, running, ended, empty, overflow, out_of_steps, elimination}
use Rattle.rules.specs.Needs.{steps_of}
use Rattle.theory_splitting.specs.WellFormed.{WellFormed}
use Rattle.theory_elimination.specs.WithinLimits.{Unstopped}
use Rattle.theory_elimination.specs.Ends.{LastEmpty, EndsRight}
use Rattle.theory_elimination.specs.Chosen.{elimination-ordered}
use Rattle.theory_elimination.specs.OfProblem.{elimination-last, elimination-unstopped}
use Rattle.promises.specs.Refuted.{empty-refutes}
use Rattle.promises.specs.Satisfied.{chosen, walk-satisfies}

-- no assignment satisfies it
abbrev pub NoAssignment : Problem → Type 0
NoAssignment p = (χ : Assignment) → Satisfies χ p → ⊥

abbrev pub HasEmpty : State → Type 0
HasEmpty (running steps n) = ⊥
HasEmpty (ended empty steps n) = Unit {0}
HasEmpty (ended overflow steps n) = ⊥
HasEmpty (ended out_of_steps steps n) = ⊥

module _ (p : Problem) (w : WellFormed p) (stops : Stops) where
  pub running-satisfies : (steps : List Step) (n : ℕ) → elimination stops p ≡ running steps n → Satisfies (chosen p steps) p
  running-satisfies steps n e = walk-satisfies p w stops steps n (sym (elimination-ordered stops p) ∙ e)

  pub empty-none : (steps : List Step) (n : ℕ) → elimination stops p ≡ ended empty steps n → NoAssignment p
  unfolding steps_of
  empty-none steps n e = empty-refutes stops p w
      (subst (λ (s : State). LastEmpty (steps_of s)) (sym e) (subst EndsRight e (elimination-last p stops)))

-- the theorem
pub empty-exactly : (p : Problem) → WellFormed p → HasEmpty (elimination unlimited p) ↔ NoAssignment p
empty-exactly p w = by (elimination unlimited p) refl (elimination-unstopped p)
  where
    by : (s : State) → elimination unlimited p ≡ s → Unstopped s → HasEmpty s ↔ NoAssignment p
    by (running steps n) e u = (λ h. absurd h, λ h. h (chosen p steps) (running-satisfies p w unlimited steps n e))
    by (ended empty steps n) e u = (λ h. empty-none p w unlimited steps n e, λ h. tt)
    by (ended overflow steps n) e u = absurd u
    by (ended out_of_steps steps n) e u = absurd u
