-- The elimination at a point in machine words: what has ended it, the steps held, the pairs tried.
use Rattle.std.specs.Prelude.{◌≡◌, Bool, cond, List, [], ◌∷◌, ◌++◌, length, take, drop}
use Rattle.std.proofs.Math.Path.{refl, ap}
use Rattle.std.proofs.Common.{sym, ◌∙◌, take-take, drop-drop}
use Rattle.std.proofs.Math.Bool.{true, false}
use Prim.Native.Nat.{ℕ, suc, ◌+◌, ◌*◌, ◌-◌, ◌≤◌, ◌<◌}
use borrow.Author.Tests.{le-leb, lt-leb}
use native.Mathlib.Omega.{arith}
use Rattle.rules_types.specs.Limits.{step_bytes}
use Rattle.rules_types.specs.declared.limits.Limits.{Limits}
use Rattle.rules.specs.Steps.{Step}
use Rattle.rules.specs.Lines.{is_empty}
use Rattle.rules.specs.Elimination.{End, State, running, ended, empty, overflow, out_of_steps, limited, covered, placed, add}
use Rattle.rules.specs.Needs.{steps_of, pairs_of}
use Rattle.steps.specs.declared.origin.Step as words
use Rattle.steps.specs.Origin.{step_of}
use Rattle.steps.specs.Places.{step_at, HasStep}
use Rattle.fields.specs.Field.{stored}
use Rattle.placing.specs.declared.point.Progress.{Progress}
use Rattle.placing.specs.declared.point.Progress.TheVariants.{Running, Empty, Overflow, OutOfSteps}
use Rattle.placing.specs.declared.point.Point.{Point}
use Rattle.steps.specs.Held.{step_from, steps_in, length-steps_in, StepBytes, Held, step_at-same, steps_in-same, stored-steps, stored-held}
use Rattle.steps.specs.Held.{stored-front, stored-rest, stored-length}

unfoldable pub state_of : Progress → List Step → ℕ → State
state_of Running steps pairs = running steps pairs
state_of Empty steps pairs = ended empty steps pairs
state_of Overflow steps pairs = ended overflow steps pairs
state_of OutOfSteps steps pairs = ended out_of_steps steps pairs

-- the state that a point of the elimination and the proof's bytes stand for
unfoldable pub state_at : List ℕ → Point → State
state_at proof p = state_of p.progress (steps_in proof p.steps) p.pairs

-- bytes that hold n steps, within the limits
pub record Standing (limits : Limits) (proof : List ℕ) (n : ℕ) : Type 0 where
  pub held : Held proof n
  pub few : n ≤ limits.steps
  pub room : step_bytes * limits.steps ≤ length proof

-- from n steps to m: the first n stay, and so does what is behind the m
pub record Leads (limits : Limits) (before : List ℕ) (n : ℕ) (after : List ℕ) (m : ℕ) : Type 0 where
  pub standing : Standing limits after m
  pub grows : n ≤ m
  pub front : take (step_bytes * n) after ≡ take (step_bytes * n) before
  pub rest : drop (step_bytes * m) after ≡ drop (step_bytes * m) before
  pub as_long : length after ≡ length before

pub leads-none : {limits : Limits} {proof : List ℕ} {n : ℕ} → Standing limits proof n → Leads limits proof n proof n
leads-none h = record { standing = h; grows = omega arith; front = refl; rest = refl; as_long = refl }

pub leads-trans : {limits : Limits} {a b c : List ℕ} {n m k : ℕ} → Leads limits a n b m → Leads limits b m c k → Leads limits a n c k
leads-trans {a = a} {b = b} {c = c} {n = n} {m = m} {k = k} x y =
    let e : step_bytes * m + step_bytes * (k - m) ≡ step_bytes * k = omega (arith, y.grows) in
    record {
      standing = y.standing;
      grows = omega (arith, x.grows, y.grows);
      front = sym (shorter c) ∙ ap (take (step_bytes * n)) y.front ∙ shorter b ∙ x.front;
      rest = y.rest ∙ rw (← e)
          (sym (drop-drop (step_bytes * (k - m)) (step_bytes * m) b) ∙ ap (drop (step_bytes * (k - m))) x.rest
          ∙ drop-drop (step_bytes * (k - m)) (step_bytes * m) a);
      as_long = y.as_long ∙ x.as_long;
    }
  where
    shorter : (s : List ℕ) → take (step_bytes * n) (take (step_bytes * m) s) ≡ take (step_bytes * n) s
    shorter s = take-take (step_bytes * n) (step_bytes * m) s (omega (arith, x.grows))

-- what the first n steps say is said after them too
pub leads-steps : {limits : Limits} {a b : List ℕ} {n m : ℕ} → Leads limits a n b m → step_bytes * n ≤ length a → (k : ℕ) → k ≤ n
    → steps_in b k ≡ steps_in a k
leads-steps {a = a} {b = b} {n = n} x h k l =
    steps_in-same a b k (sym (take-take (step_bytes * k) (step_bytes * n) b (omega arith)) ∙ ap (take (step_bytes * k)) x.front
    ∙ take-take (step_bytes * k) (step_bytes * n) a (omega arith)) (omega arith) x.as_long

pub leads-step : {limits : Limits} {a b : List ℕ} {n m : ℕ} → Leads limits a n b m → step_bytes * n ≤ length a → (i : ℕ) → i < n
    → step_at b i ≡ step_at a i
leads-step {a = a} {b = b} {n = n} x h = step_at-same a b n x.front h x.as_long

-- the progress of a state, and of a point
unfoldable pub progress_of : State → Progress
progress_of (running steps n) = Running
progress_of (ended empty steps n) = Empty
progress_of (ended overflow steps n) = Overflow
progress_of (ended out_of_steps steps n) = OutOfSteps

pub progress-at : (proof : List ℕ) (p : Point) → p.progress ≡ progress_of (state_at proof p)
unfolding state_at state_of progress_of
progress-at proof p = by p.progress
  where
    by : (g : Progress) → g ≡ progress_of (state_of g (steps_in proof p.steps) p.pairs)
    by Running = refl
    by Empty = refl
    by Overflow = refl
    by OutOfSteps = refl

-- the pairs of a point
pub pairs-at : (proof : List ℕ) (p : Point) → pairs_of (state_at proof p) ≡ p.pairs
unfolding state_at state_of pairs_of
pairs-at proof p = by p.progress
  where
    by : (g : Progress) → pairs_of (state_of g (steps_in proof p.steps) p.pairs) ≡ p.pairs
    by Running = refl
    by Empty = refl
    by Overflow = refl
    by OutOfSteps = refl

-- its steps
pub steps-at : (proof : List ℕ) (p : Point) → steps_of (state_at proof p) ≡ steps_in proof p.steps
unfolding state_at state_of steps_of
steps-at proof p = by p.progress
  where
    by : (g : Progress) → steps_of (state_of g (steps_in proof p.steps) p.pairs) ≡ steps_in proof p.steps
    by Running = refl
    by Empty = refl
    by Overflow = refl
    by OutOfSteps = refl

-- the elimination goes on, or it has ended
abbrev pub is_running : Progress → Bool
is_running Running = true
is_running Empty = false
is_running Overflow = false
is_running OutOfSteps = false

pub running-yes : (g : Progress) → is_running g ≡ true → g ≡ Running
running-yes Running e = refl
running-yes Empty e = let z : ◌≡◌ {A = ℕ} 0 1 = cc in absurd (omega arith)
running-yes Overflow e = let z : ◌≡◌ {A = ℕ} 0 1 = cc in absurd (omega arith)
running-yes OutOfSteps e = let z : ◌≡◌ {A = ℕ} 0 1 = cc in absurd (omega arith)

-- what leaves an end as it is leaves a point that has ended
pub ended-stays : (next : State → State) → ((e : End) (steps : List Step) (n : ℕ) → next (ended e steps n) ≡ ended e steps n)
    → (proof : List ℕ) (p : Point) → is_running p.progress ≡ false → state_at proof p ≡ next (state_at proof p)
unfolding state_at state_of
ended-stays next k proof p g = by p.progress (steps_in proof p.steps) p.pairs g
  where
    by : (x : Progress) (steps : List Step) (n : ℕ) → is_running x ≡ false → state_of x steps n ≡ next (state_of x steps n)
    by Running steps n g = let z : ◌≡◌ {A = ℕ} 0 1 = cc in absurd (omega arith)
    by Empty steps n g = sym (k empty steps n)
    by Overflow steps n g = sym (k overflow steps n)
    by OutOfSteps steps n g = sym (k out_of_steps steps n)

-- a later point of the elimination, and the state that it stands for
pub record Reaches (limits : Limits) (before : List ℕ) (p : Point) (after : List ℕ) (q : Point) (state : State) : Type 0 where
  pub is : state_at after q ≡ state
  pub leads : Leads limits before p.steps after q.steps

-- ---- a step put to the tests of its line
abbrev pub added : Limits → List ℕ → Point → words.Step → State
added limits proof p step = add (limited limits) false (step_of step) (steps_in proof p.steps) p.pairs

module _ {limits : Limits} {proof : List ℕ} (p : Point) (standing : Standing limits proof p.steps) (step : words.Step) where
  abbrev s : Step
  s = step_of step

  pub admit-subsumed : covered s.line (steps_in proof p.steps) ≡ true → Reaches limits proof p proof (record {
    progress = Running;
    steps = p.steps;
    pairs = p.pairs;
  }) (added limits proof p step)
  unfolding state_at state_of add placed
  admit-subsumed e = record { is = rw e; leads = leads-none standing }

  module _ (new : covered s.line (steps_in proof p.steps) ≡ false) where
    pub admit-out-of-steps : limits.steps ≤ p.steps → Reaches limits proof p proof (record {
      progress = OutOfSteps;
      steps = p.steps;
      pairs = p.pairs;
    }) (added limits proof p step)
    unfolding state_at state_of add placed limited
    admit-out-of-steps h = record {
      is = rw (new, length-steps_in proof p.steps, le-leb limits.steps p.steps h);
      leads = leads-none standing;
    }

    module _ (bytes : List ℕ) (written : StepBytes bytes) (is-step : step_from bytes ≡ s) (more : p.steps < limits.steps)
        (whole : length bytes ≡ step_bytes) where
      abbrev put : Point
      put = record { progress = cond (is_empty s.line) Empty Running; steps = p.steps + 1; pairs = p.pairs }

      room : HasStep proof p.steps
      room = omega (arith, standing.room)

      pub admit-new : Reaches limits proof p (stored (step_bytes * p.steps) bytes proof) put (added limits proof p step)
      unfolding state_at state_of add placed limited
      admit-new =
          let n = p.steps in
          let one : n + 1 ≡ suc n = omega arith in
          let steps : steps_in (stored (step_bytes * n) bytes proof) (n + 1) ≡ steps_in proof n ++ (s ∷ []) =
          rw one (stored-steps proof bytes n room whole) ∙ ap (λ (s : Step). steps_in proof n ++ (s ∷ [])) is-step in
          record {
            is = rw (steps, new, length-steps_in proof n, lt-leb limits.steps n more) (by (is_empty s.line));
            leads =
                record {
                  standing = record {
                    held = rw one (stored-held proof bytes n room whole standing.held written);
                    few = omega arith;
                    room = rw (stored-length proof bytes n room whole) standing.room;
                  };
                  grows = omega arith;
                  front = stored-front proof bytes n room whole;
                  rest = rw one (stored-rest proof bytes n room whole);
                  as_long = stored-length proof bytes n room whole;
                };
          }
        where
          by : (blank : Bool) → state_of (cond blank Empty Running) (steps_in proof p.steps ++ (s ∷ [])) p.pairs
              ≡ placed false false false blank s (steps_in proof p.steps) p.pairs
          by true = refl
          by false = refl
