-- What holds of every part and is kept by resolving holds of every line of an elimination.
use Rattle.std.specs.Prelude.{◌≡◌, Bool, not, List, [], ◌∷◌, ℕ, suc, T}
use Rattle.std.proofs.Math.Path.{subst}
use Rattle.std.proofs.Math.Bool.{true, false}
use Rattle.std.proofs.Math.Option.{some}
use Rattle.rules.specs.Lines.{Line, Variable, positively, negatively}
use Rattle.rules.specs.Resolve.{resolve}
use Rattle.rules.specs.Steps.{Step}
use Rattle.rules.specs.Elimination.{Stops, placed, add, eliminate}
use Rattle.rules.specs.Needs.{steps_of}
use Rattle.theory_lists.specs.Places.{all-place}
use Rattle.theory_lists.specs.All.{All, all_any, all_append}
use Rattle.theory_elimination.specs.States.{add-steps}
use Rattle.theory_elimination.specs.Pairs.{LineAt}
use Rattle.theory_elimination.specs.Induction.{resolvent_of, elimination-induction}

module _ (P : Line → Type 0) where
  abbrev pub AllLines : List Step → Type 0
  AllLines steps = All (λ s. P s.line) steps

  pub line-at : (steps : List Step) (i : ℕ) (l : Line) → LineAt steps i l → AllLines steps → P l
  line-at steps i l a h = all-place (λ s. P s.line) (λ s. s.line ≡ l) steps i (λ s p e. subst P e p) h a

  module _ (stops : Stops) where
    -- a line that does not stop the elimination
    add-lines : (w : Bool) (s : Step) (steps : List Step) (n : ℕ) → (T (not w) → P s.line) → AllLines steps
        → AllLines (steps_of (add stops w s steps n))
    unfolding add placed steps_of
    add-lines true s steps n h k = k
    add-lines false s steps n h k =
        add-steps AllLines stops false s steps n k (λ m. all_append (λ s. P s.line) steps (s ∷ []) k (h tt, tt))

    -- `closed`: of two lines on the two sides of a variable, so is the resolvent that does not stop the elimination
    pub elimination-closed-unstopped : (variables : List Variable) (parts : List Step)
        → ((v : Variable) (u l m : Line) → P u → P l → T (positively v u) → T (negatively v l) → resolve v u l ≡ some m
        → T (not (stops.at_line m)) → P m) → AllLines parts
        → AllLines (steps_of (eliminate stops variables parts))
    unfolding steps_of
    elimination-closed-unstopped variables parts closed c =
        elimination-induction stops variables parts (λ state. AllLines (steps_of state))
        (record {
          part = λ s steps n m h. add-lines false s steps n
              (λ t. all_any (λ x. P x.line) (λ x. x ≡ s) parts (λ x k e. subst (λ (y : Step). P y.line) e k) c m) h;
          dropped = λ t v vs e p steps n q r h. h;
          result = λ t v vs e p l steps n q r h.
              add-lines (stops.at_line l) (resolvent_of v p l) steps (suc n)
              (closed v p.upper.line p.lower.line l (line-at steps p.upper.number p.upper.line q.upper.at h)
              (line-at steps p.lower.number p.lower.line q.lower.at h) q.upper.sided q.lower.sided r) h;
        }) tt

    -- so is every resolvent
    pub elimination-closed : (variables : List Variable) (parts : List Step)
        → ((v : Variable) (u l m : Line) → P u → P l → T (positively v u) → T (negatively v l) → resolve v u l ≡ some m → P m)
        → AllLines parts → AllLines (steps_of (eliminate stops variables parts))
    elimination-closed variables parts closed c =
        elimination-closed-unstopped variables parts (λ v u l m hu hl a b e t. closed v u l m hu hl a b e) c
