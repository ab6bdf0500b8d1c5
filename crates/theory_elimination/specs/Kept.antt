-- What is kept of the candidates stays, and what is kept of two lists of them is kept of the first and then of the second.
use Rattle.std.specs.Prelude.{◌≡◌, refl, Bool}
use Rattle.std.proofs.Math.Bool.{true, false}
use mathlib.Core.List.{List, [], ◌∷◌, ◌++◌}
use Rattle.rules.specs.Steps.{Step}
use Rattle.rules.specs.Elimination.{Stops, End, empty, overflow, out_of_steps, covered}
use Rattle.theory_lists.specs.All.{Any, any_left}
use Rattle.theory_elimination.specs.Exactly.{Candidate, part, made, dropped, keep_one, keep, proof_at}

module _ (P : Step → Type 0) where
  one-stays : (held : List Step) (s : Step) → Any P held → Any P (keep_one held s)
  unfolding keep_one
  one-stays held s h = by (covered s.line held)
    where
      by : (subsumed : Bool) → Any P (elim subsumed [ true ↦ held | false ↦ held ++ (s ∷ []) ])
      by true = h
      by false = any_left P held (s ∷ []) h

  pub stays : (xs : List Candidate) (held : List Step) → Any P held → Any P (keep held xs)
  unfolding keep
  stays [] held h = h
  stays (part s ∷ xs) held h = stays xs (keep_one held s) (one-stays held s h)
  stays (made s ∷ xs) held h = stays xs (keep_one held s) (one-stays held s h)
  stays (dropped ∷ xs) held h = stays xs held h

  pub stays_at : (stops : Stops) (e : End) (held : List Step) (x : Candidate) → Any P held → Any P (proof_at stops e held x)
  stays_at stops empty held x h = stays (x ∷ []) held h
  stays_at stops overflow held x h = h
  stays_at stops out_of_steps held x h = h

pub keep_append : (xs ys : List Candidate) (held : List Step) → keep held (xs ++ ys) ≡ keep (keep held xs) ys
unfolding keep
keep_append [] ys held = refl
keep_append (part s ∷ xs) ys held = keep_append xs ys (keep_one held s)
keep_append (made s ∷ xs) ys held = keep_append xs ys (keep_one held s)
keep_append (dropped ∷ xs) ys held = keep_append xs ys held
