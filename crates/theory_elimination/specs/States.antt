-- The elimination at a point: the ends of adding a line, and an end stays.
use Rattle.std.specs.Prelude.{◌≡◌, Bool, not, ℕ, T, length}
use Rattle.std.proofs.Math.Path.{refl}
use Rattle.std.proofs.Math.Bool.{true, false}
use mathlib.Core.List.{List, [], ◌∷◌, ◌++◌}
use Rattle.rules.specs.Lines.{Variable, is_empty}
use Rattle.rules.specs.Steps.{Step}
use Rattle.rules.specs.Needs.{steps_of}
use Rattle.rules.specs.Elimination.{Stops, End, overflow, out_of_steps, empty, State, running, ended, placed, covered, Pair, add, load}
use Rattle.rules.specs.Elimination.{try_all, rounds}

module _ (stops : Stops) (e : End) (steps : List Step) (n : ℕ) where
  pub load-ended : (xs : List Step) → load stops xs (ended e steps n) ≡ ended e steps n
  unfolding load
  load-ended [] = refl
  load-ended (x ∷ xs) = refl

  pub try-ended : (v : Variable) (ps : List Pair) → try_all stops v ps (ended e steps n) ≡ ended e steps n
  unfolding try_all
  try-ended v [] = refl
  try-ended v (p ∷ ps) = refl

  pub rounds-ended : (variables : List Variable) (t : ℕ) (vs : List Variable)
      → rounds stops variables t vs (ended e steps n) ≡ ended e steps n
  unfolding rounds
  rounds-ended variables t [] = refl
  rounds-ended variables t (v ∷ vs) = refl

-- a line that is added: overflowing, covered, one too many, empty or held, for any claim of the elimination then
module _ (P : State → Type 0) (s : Step) (steps : List Step) (n : ℕ) where
  placed-cases : (w subsumed many blank : Bool) → (T w → P (ended overflow steps n)) → (T (not w) → T subsumed → P (running steps n))
      → (T many → P (ended out_of_steps steps n))
      → (T (not many) → T blank → P (ended empty (steps ++ (s ∷ [])) n))
      → (T (not many) → T (not blank) → P (running (steps ++ (s ∷ [])) n)) → P (placed w subsumed many blank s steps n)
  unfolding placed
  placed-cases true subsumed many blank a b c d e = a tt
  placed-cases false true many blank a b c d e = b tt tt
  placed-cases false false true blank a b c d e = c tt
  placed-cases false false false true a b c d e = d tt tt
  placed-cases false false false false a b c d e = e tt tt

  pub add-cases : (stops : Stops) (w : Bool) → (T w → P (ended overflow steps n)) → (T (covered s.line steps) → P (running steps n))
      → (T (stops.at_steps (length steps)) → P (ended out_of_steps steps n))
      → (T (not (stops.at_steps (length steps))) → T (is_empty s.line) → P (ended empty (steps ++ (s ∷ [])) n))
      → (T (not (stops.at_steps (length steps))) → T (not (is_empty s.line)) → P (running (steps ++ (s ∷ [])) n))
      → P (add stops w s steps n)
  unfolding add
  add-cases stops w a b = placed-cases w (covered s.line steps) (stops.at_steps (length steps)) (is_empty s.line) a (λ fits. b)

-- of the lines held alone: they are as before, or with this one
pub add-steps : (P : List Step → Type 0) (stops : Stops) (w : Bool) (s : Step) (steps : List Step) (n : ℕ) → P steps
    → (T (not (stops.at_steps (length steps))) → P (steps ++ (s ∷ []))) → P (steps_of (add stops w s steps n))
unfolding steps_of
add-steps P stops w s steps n h k =
    add-cases (λ state. P (steps_of state)) s steps n stops w (λ w. h) (λ z. h) (λ m. h) (λ m e. k m) (λ m e. k m)

-- and none of them drops it
pub add-new : (P : List Step → Type 0) (stops : Stops) (w : Bool) (s : Step) (steps : List Step) (n : ℕ) → P steps
    → (T (not (covered s.line steps)) → P (steps ++ (s ∷ []))) → P (steps_of (add stops w s steps n))
unfolding add placed steps_of
add-new P stops w s steps n h k = by w (covered s.line steps) (stops.at_steps (length steps)) (is_empty s.line) k
  where
    by : (w subsumed many blank : Bool) → (T (not subsumed) → P (steps ++ (s ∷ []))) → P (steps_of (placed w subsumed many blank s steps n))
    by true subsumed many blank k = h
    by false true many blank k = h
    by false false true blank k = h
    by false false false true k = k tt
    by false false false false k = k tt
