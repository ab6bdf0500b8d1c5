-- Each line of an elimination is the part or the resolvent that it names, of lines before it.
use Rattle.std.specs.Prelude.{◌≡◌, refl, Bool, not, ◌⊎◌, ℕ, suc, T, drop}
use Rattle.std.proofs.Common.{sym, subst, inl, inr}
use Rattle.std.proofs.Math.Bool.{false}
use mathlib.Core.List.{List, [], ◌∷◌, ◌++◌, append_assoc, append-nil}
use Rattle.std.proofs.Math.Option.{some}
use Rattle.rules.specs.Lines.{Line, Variable, positively, negatively}
use Rattle.rules.specs.Resolve.{resolve}
use Rattle.rules.specs.Steps.{Step, resolved}
use Rattle.rules.specs.Elimination.{Stops, Pair, round_of, drops, covered, add, eliminate}
use Rattle.rules.specs.Needs.{steps_of}
use Rattle.theory_lists.specs.Tests.{clash}
use Rattle.theory_lists.specs.All.{All, Any, all_map, any-no}
use Rattle.theory_saturation.specs.Drops.{Drops, drops-self}
use Rattle.theory_saturation.specs.Rounds.{At, drop_at}
use Rattle.theory_elimination.specs.States.{add-steps, add-new}
use Rattle.theory_elimination.specs.Pairs.{LineAt, PairOf}
use Rattle.theory_elimination.specs.Induction.{resolvent_of, elimination-induction}

-- a fact of each line and those before it
abbrev pub Each : (List Step → Step → Type 0) → List Step → List Step → Type 0
Each P earlier [] = Unit {0}
Each P earlier (s ∷ ss) = P earlier s × Each P (earlier ++ (s ∷ [])) ss

pub each_append : (P : List Step → Step → Type 0) (earlier ss : List Step) (s : Step) → Each P earlier ss → P (earlier ++ ss) s
    → Each P earlier (ss ++ (s ∷ []))
each_append P earlier [] s h k = (rw (append-nil earlier) at k, tt)
each_append P earlier (x ∷ ss) s h k = (h.0, each_append P (earlier ++ (x ∷ [])) ss s h.1 (rw (append_assoc earlier (x ∷ []) ss) k))

-- the resolvent of two earlier lines by the variable that it names, the first with it positive and the second with it negative, both of
-- its round
pub record Derived (variables : List Variable) (earlier : List Step) (s : Step) : Type 0 where
  pub variable : Variable
  pub round : ℕ
  pub first : ℕ
  pub second : ℕ
  pub upper : Line
  pub lower : Line
  pub names : s.origin ≡ resolved variable first second
  pub at_first : LineAt earlier first upper
  pub at_second : LineAt earlier second lower
  pub positive : T (positively variable upper)
  pub negative : T (negatively variable lower)
  pub place : At variables round variable
  pub of_upper : round_of variables upper ≡ round
  pub of_lower : round_of variables lower ≡ round
  pub result : resolve variable upper lower ≡ some s.line

-- one of the parts, or such a resolvent
abbrev pub Justified : List Variable → List Step → List Step → Step → Type 0
Justified variables parts earlier s = Any (λ x. x ≡ s) parts ⊎ Derived variables earlier s

module _ (variables : List Variable) (parts : List Step) where
  module _ (stops : Stops) where
    add-origins : (w : Bool) (s : Step) (steps : List Step) (n : ℕ) → Justified variables parts steps s
        → Each (Justified variables parts) [] steps → Each (Justified variables parts) [] (steps_of (add stops w s steps n))
    add-origins w s steps n j h =
        add-steps (Each (Justified variables parts) []) stops w s steps n h (λ m. each_append (Justified variables parts) [] steps s h j)

    derived : (t : ℕ) (v : Variable) (vs : List Variable) → drop t variables ≡ v ∷ vs → (p : Pair) (l : Line) (steps : List Step)
        → PairOf variables v t steps p → resolve v p.upper.line p.lower.line ≡ some l → Derived variables steps (resolvent_of v p l)
    derived t v vs d p l steps h e =
        record {
          variable = v;
          round = t;
          first = p.upper.number;
          second = p.lower.number;
          upper = p.upper.line;
          lower = p.lower.line;
          names = refl;
          at_first = h.upper.at;
          at_second = h.lower.at;
          positive = h.upper.sided;
          negative = h.lower.sided;
          place = drop_at variables t v vs d;
          of_upper = h.upper.round;
          of_lower = h.lower.round;
          result = e;
        }

    pub elimination-origins : Each (Justified variables parts) [] (steps_of (eliminate stops variables parts))
    unfolding steps_of
    elimination-origins =
        elimination-induction stops variables parts (λ state. Each (Justified variables parts) [] (steps_of state))
        (record {
          part = λ s steps n m h. add-origins false s steps n (inl m) h;
          dropped = λ t v vs e p steps n q r h. h;
          result = λ t v vs e p l steps n q r h. add-origins (stops.at_line l) (resolvent_of v p l) steps (suc n)
              (inr (derived t v vs e p l steps q r)) h;
        }) tt

-- ---- no earlier line drops one
abbrev pub Fresh : List Step → Step → Type 0
Fresh earlier s = T (not (covered s.line earlier))

pub elimination-fresh : (stops : Stops) (variables : List Variable) (parts : List Step)
    → Each Fresh [] (steps_of (eliminate stops variables parts))
unfolding steps_of
elimination-fresh stops variables parts =
    elimination-induction stops variables parts (λ state. Each Fresh [] (steps_of state))
    (record {
      part = λ s steps n m h. add-new (Each Fresh []) stops false s steps n h (each_append Fresh [] steps s h);
      dropped = λ t v vs e p steps n q r h. h;
      result = λ t v vs e p l steps n q r h. add-new (Each Fresh []) stops (stops.at_line l) (resolvent_of v p l) steps (suc n) h
          (each_append Fresh [] steps (resolvent_of v p l) h);
    }) tt

-- ---- so no two lines are equal
abbrev pub Distinct : List Step → Step → Type 0
Distinct earlier s = All (λ x. x.line ≡ s.line → ⊥) earlier

pub fresh-distinct : (earlier ss : List Step) → Each Fresh earlier ss → Each Distinct earlier ss
unfolding covered
fresh-distinct earlier [] h = tt
fresh-distinct earlier (s ∷ ss) h = (
  all_map (λ x. T (not (drops x.line s.line))) (λ x. x.line ≡ s.line → ⊥) earlier
      (λ x n e. clash (drops x.line s.line) (subst (λ (l : Line). Drops l s.line) (sym e) (drops-self s.line)) n)
      (any-no (λ x. drops x.line s.line) earlier h.0),
  fresh-distinct (earlier ++ (s ∷ [])) ss h.1,
)
