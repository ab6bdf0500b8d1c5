-- A limited elimination never holds more steps than its limit, and only limits end one by an overflow or out of steps.
use Rattle.std.specs.Prelude.{Bool, List, ℕ, suc, ◌≤◌}
use Rattle.std.proofs.Math.Bool.{false}
use Rattle.std.proofs.Common.{arith}
use Rattle.std.proofs.Math.Dec.{nleb→lt}
use Rattle.std.proofs.Math.ListN.{length, length-append}
use Rattle.rules_types.specs.declared.limits.Limits.{Limits}
use Rattle.rules.specs.Lines.{Variable}
use Rattle.rules.specs.Steps.{Step}
use Rattle.rules.specs.Elimination.{limited, unlimited, State, running, ended, overflow, out_of_steps, empty, add, eliminate}
use Rattle.rules.specs.Needs.{steps_of}
use Rattle.theory_elimination.specs.States.{add-cases, add-steps}
use Rattle.theory_elimination.specs.Induction.{Preserved, resolvent_of, elimination-induction}

module _ (limits : Limits) where
  add-held : (w : Bool) (s : Step) (steps : List Step) (n : ℕ) → length steps ≤ limits.steps
      → length (steps_of (add (limited limits) w s steps n)) ≤ limits.steps
  unfolding limited
  add-held w s steps n h =
      add-steps (λ held. length held ≤ limits.steps) (limited limits) w s steps n h
      (λ m. rw length-append (omega (arith, nleb→lt limits.steps (length steps) m)))

  abbrev Holds : State → Type 0
  Holds state = length (steps_of state) ≤ limits.steps

  kept : (variables : List Variable) (parts : List Step) → Preserved (limited limits) variables parts Holds
  unfolding steps_of
  kept variables parts =
      record {
        part = λ s steps n m h. add-held false s steps n h;
        dropped = λ t v vs e p steps n q r h. h;
        result = λ t v vs e p l steps n q r h. add-held ((limited limits).at_line l) (resolvent_of v p l) steps (suc n) h;
      }

  pub limited-held : (variables : List Variable) (parts : List Step)
      → length (steps_of (eliminate (limited limits) variables parts)) ≤ limits.steps
  unfolding steps_of
  limited-held variables parts = elimination-induction (limited limits) variables parts Holds (kept variables parts) (omega arith)

-- ---- not ended by a limit
abbrev pub Unstopped : State → Type 0
Unstopped (running steps n) = Unit {0}
Unstopped (ended empty steps n) = Unit {0}
Unstopped (ended overflow steps n) = ⊥
Unstopped (ended out_of_steps steps n) = ⊥

add-unstopped : (s : Step) (steps : List Step) (n : ℕ) → Unstopped (add unlimited false s steps n)
unfolding unlimited
add-unstopped s steps n = add-cases Unstopped s steps n unlimited false (λ w. absurd w) (λ k. tt) (λ m. absurd m) (λ m e. tt) (λ m e. tt)

pub unlimited-unstopped : (variables : List Variable) (parts : List Step) → Unstopped (eliminate unlimited variables parts)
unfolding unlimited
unlimited-unstopped variables parts =
    elimination-induction unlimited variables parts Unstopped
    (record {
      part = λ s steps n m h. add-unstopped s steps n;
      dropped = λ t v vs e p steps n q r h. tt;
      result = λ t v vs e p l steps n q r h. add-unstopped (resolvent_of v p l) steps (suc n);
    }) tt
