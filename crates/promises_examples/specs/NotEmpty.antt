-- The demands are about something: a problem that fits, satisfiable or not, one that overflows, one out of steps and one unwritten, each
-- through the record of demand 3, with a small proof lent.
use Rattle.std.specs.Prelude.{◌≡◌, refl, List, [], ◌∷◌, ℕ, ◌≤◌, pos, negsuc, length, replicate}
use Rattle.std.proofs.Common.{inl, inr, arith}
use Rattle.std.proofs.Math.Option.{none, some}
use Rattle.rules_types.specs.declared.limits.Limits.{Limits}
use Rattle.rules_types.specs.declared.terms.Edition.TheVariants.{First, Second}
use Rattle.rules_types.specs.declared.terms.Terms.{Terms}
use Rattle.rules_types.specs.Limits as limit
use Rattle.rules.specs.Problem.{Problem, in_edition}
use Rattle.rules.specs.Elimination.{overflow, out_of_steps, order_of, limited, loadable_of}
use Rattle.rules.specs.Needs.{needs, Fits}
use Rattle.rules.specs.Calls.{sound, read, solve}
use Rattle.rules.specs.Write.{at_most, below, alone, problem_of}
use Rattle.rules.specs.Compute.{definitions}
use Rattle.theory_elimination.specs.Events.{events}
use Rattle.promises.specs.Decided.{NoAssignment}
use Rattle.promises.specs.Words.{SomeAssignment, model_of, GivesModel, FullSize, first_stop}
use Rattle.promises.specs.Demand3.{Demand3, demand3}
use Rattle.promises_examples.specs.Read.{problem_from}

-- a proof of N steps, and a model, lent with other bytes in them
abbrev of_steps : ℕ → Limits
of_steps n = record { steps = n }

abbrev terms_of : ℕ → Terms
terms_of n = record { limits = of_steps n; edition = First }

abbrev lent_proof : ℕ → List ℕ
lent_proof n = replicate (limit.proof_bytes (of_steps n)) 7

abbrev lent_model : List ℕ
lent_model = replicate limit.model_bytes 7

module _ (n : ℕ) (input : List ℕ) where
  abbrev Delivers : Type 0
  Delivers = Demand3 (terms_of n) input (in_edition First (problem_from input)) (lent_proof n) lent_model
      (solve (terms_of n) input (lent_proof n) lent_model)

  delivers : n ≤ limit.most_steps → read input ≡ sound (problem_from input) → FullSize (of_steps n) (lent_proof n) lent_model → Delivers
  delivers few e full = demand3 (terms_of n) few input (problem_from input) e (lent_proof n) lent_model full

full-five : FullSize (of_steps 5) (lent_proof 5) lent_model
full-five = record { proof_size = omega arith; model_size = omega arith }

-- ---- example 7 fits in 5 lines, and no assignment satisfies it
abbrev seven : List ℕ
seven =
    problem_of 0 2 (alone (at_most (pos 1 ∷ pos 1 ∷ []) (pos 10)) ∷ alone (at_most (negsuc 0 ∷ pos 0 ∷ []) (negsuc 6)) ∷ alone
    (at_most (pos 0 ∷ negsuc 0 ∷ []) (negsuc 3)) ∷ [])

pub seven-fits : Fits (of_steps 5) (problem_from seven)
unfolding definitions
seven-fits = record { steps = (let e : needs (problem_from seven) ≡ 5 = refl in omega (arith, e)); amounts = tt }

pub seven-refuted : NoAssignment (problem_from seven)
unfolding definitions
seven-refuted = ((delivers 5 seven (omega arith) refl full-five).unsatisfiable seven-fits).0 refl

-- ---- x ≤ -1 fits in 3 lines in the second edition, and in it no assignment satisfies it
abbrev negative : List ℕ
negative = problem_of 0 1 (alone (at_most (pos 1 ∷ []) (negsuc 0)) ∷ [])

pub negative_fits : Fits (of_steps 5) (in_edition Second (problem_from negative))
unfolding definitions
negative_fits = record { steps = (let e : needs (in_edition Second (problem_from negative)) ≡ 3 = refl in omega (arith, e)); amounts = tt }

pub negative-refuted : NoAssignment (in_edition Second (problem_from negative))
unfolding definitions
negative-refuted =
    ((demand3 (record { limits = of_steps 5; edition = Second }) (omega arith) negative (problem_from negative) refl
    (lent_proof 5) lent_model
    full-five).unsatisfiable negative_fits).0 refl

-- ---- example 5 fits, and the value rule gives a model
abbrev five : List ℕ
five = problem_of 0 1 (alone (below (pos 1 ∷ []) (pos 5)) ∷ alone (below (negsuc 0 ∷ []) (negsuc 3)) ∷ [])

pub five-fits : Fits (of_steps 5) (problem_from five)
unfolding definitions
five-fits = record { steps = (let e : needs (problem_from five) ≡ 2 = refl in omega (arith, e)); amounts = tt }

pub five-satisfied : SomeAssignment (problem_from five) × GivesModel (problem_from five)
unfolding definitions
five-satisfied = ((delivers 5 five (omega arith) refl full-five).satisfiable five-fits).0 refl

-- ---- example 11, 999,999,999x ≤ 1; 1,000,000,000y ≤ 1, fits, and the value rule says "unwritten"
abbrev eleven : List ℕ
eleven = problem_of 0 2 (alone (at_most (pos 999999999 ∷ pos 0 ∷ []) (pos 1)) ∷ alone (at_most (pos 0 ∷ pos 1000000000 ∷ []) (pos 1)) ∷ [])

pub eleven-fits : Fits (of_steps 5) (problem_from eleven)
unfolding definitions
eleven-fits = record { steps = (let e : needs (problem_from eleven) ≡ 2 = refl in omega (arith, e)); amounts = tt }

pub eleven-unwritten : SomeAssignment (problem_from eleven) × (model_of (problem_from eleven) ≡ none)
unfolding definitions
eleven-unwritten = ((delivers 5 eleven (omega arith) refl full-five).unwritten eleven-fits).0 refl

-- ---- example 10 does not fit: a resolvent overflows, and nothing before it stops the elimination
abbrev ten : List ℕ
ten =
    problem_of 0 3 (alone (at_most (pos 1000000000 ∷ pos 3 ∷ pos 0 ∷ []) (pos 0)) ∷ alone
    (at_most (negsuc 999999998 ∷ pos 0 ∷ pos 1 ∷ []) (pos 0)) ∷ [])

pub ten-does-not-fit : Fits (of_steps 5) (problem_from ten) → ⊥
unfolding definitions
ten-does-not-fit = (delivers 5 ten (omega arith) refl full-five).otherwise.0 (inl refl)

pub ten-overflows : first_stop (limited (of_steps 5)) (events (order_of (problem_from ten))
    (loadable_of (problem_from ten))) ≡ some overflow
unfolding definitions
ten-overflows = (delivers 5 ten (omega arith) refl full-five).is_overflow.0 refl

-- ---- example 7 does not fit in 4 lines
full-four : FullSize (of_steps 4) (lent_proof 4) lent_model
full-four = record { proof_size = omega arith; model_size = omega arith }

pub seven-does-not-fit : Fits (of_steps 4) (problem_from seven) → ⊥
unfolding definitions
seven-does-not-fit = (delivers 4 seven (omega arith) refl full-four).otherwise.0 (inr refl)

pub seven-out-of-steps : first_stop (limited (of_steps 4)) (events (order_of (problem_from seven)) (loadable_of (problem_from seven)))
    ≡ some out_of_steps
unfolding definitions
seven-out-of-steps = (delivers 4 seven (omega arith) refl full-four).is_out_of_steps.0 refl
