-- How an elimination ends: no line that it holds is empty, but the last one where it ended so.
use Rattle.std.specs.Prelude.{◌≡◌, refl, Bool, false, not, List, [], ◌∷◌, ◌++◌, ℕ, suc, T}
use Rattle.rules.specs.Lines.{Variable, is_empty}
use Rattle.rules.specs.Steps.{Step}
use Rattle.rules.specs.Elimination.{Stops, State, running, ended, empty, overflow, out_of_steps, add, eliminate}
use Rattle.theory_lists.specs.All.{All, all_append}
use Rattle.theory_elimination.specs.States.{add-cases}
use Rattle.theory_elimination.specs.Induction.{resolvent_of, elimination-induction}

abbrev pub NoneEmpty : List Step → Type 0
NoneEmpty steps = All (λ s. T (not (is_empty s.line))) steps

pub record LastEmpty (steps : List Step) : Type 0 where
  pub before : List Step
  pub last : Step
  pub is : steps ≡ before ++ (last ∷ [])
  pub blank : T (is_empty last.line)
  pub others : NoneEmpty before

abbrev pub EndsRight : State → Type 0
EndsRight (running steps n) = NoneEmpty steps
EndsRight (ended empty steps n) = LastEmpty steps
EndsRight (ended overflow steps n) = NoneEmpty steps
EndsRight (ended out_of_steps steps n) = NoneEmpty steps

module _ (stops : Stops) where
  add-ends : (w : Bool) (s : Step) (steps : List Step) (n : ℕ) → NoneEmpty steps → EndsRight (add stops w s steps n)
  add-ends w s steps n h =
      add-cases EndsRight s steps n stops w (λ w. h) (λ k. h) (λ m. h) (λ m e. record {
        before = steps;
        last = s;
        is = refl;
        blank = e;
        others = h;
      })
      (λ m e. all_append (λ s. T (not (is_empty s.line))) steps (s ∷ []) h (e, tt))

  pub elimination-ends : (variables : List Variable) (parts : List Step) → EndsRight (eliminate stops variables parts)
  elimination-ends variables parts =
      elimination-induction stops variables parts EndsRight
      (record {
        part = λ s steps n m h. add-ends false s steps n h;
        dropped = λ t v vs e p steps n q r h. h;
        result = λ t v vs e p l steps n q r h. add-ends (stops.at_line l) (resolvent_of v p l) steps (suc n) h;
      }) tt
