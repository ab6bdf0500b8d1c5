-- Document 01's "Traps of this trade", where the starred examples would let a wrong rule pass, and those of request (i) in the checks:
-- one small theorem each.
use Rattle.std.specs.Prelude.{◌≡◌, refl, List, [], ◌∷◌, ◌++◌, map, false, ℕ, ℤ, pos, negsuc, replicate}
use Rattle.std.proofs.Math.Option.{none, some}
use Rattle.rules_types.specs.declared.answers.Checked.{Checked}
use Rattle.rules_types.specs.declared.answers.Checked.TheVariants.{Accepted, Fails}
use Rattle.rules_types.specs.Terms.{standard}
use Rattle.rules.specs.Bytes.{to_bytes, padded}
use Rattle.rules.specs.Lines.{no_booleans, rational}
use Rattle.rules.specs.Steps.{Origin, loaded, resolved, Step, encode_proof}
use Rattle.rules.specs.Calls.{proof_checked, model_checked}
use Rattle.rules.specs.Write.{at_most, below, equals, clause_of, alone, problem_of}
use Rattle.rules.specs.Compute.{definitions, satisfiable, unsatisfiable, shown}

-- a line without literals whose constraint is coefficient × x ≤ bound
abbrev step_of : Origin → ℤ → ℤ → Step
step_of o c k =
    record {
      origin = o;
      line = record {
        positive = no_booleans;
        negative = no_booleans;
        constraint = some (record { strict = false; coefficients = c ∷ replicate 7 (pos 0); bound = k });
      };
    }

abbrev proof_check : List ℕ → List ℕ → Checked
proof_check = proof_checked standard

-- "Calling a pair strict only if both are": x ≤ 5; -x < -5. Example 4 has its < on the upper side alone.
pub strict-if-the-lower-is : shown (problem_of 0 1 (alone (at_most (pos 1 ∷ []) (pos 5)) ∷ alone (below (negsuc 0 ∷ []) (negsuc 4)) ∷ []))
    ≡ unsatisfiable 3 1 (loaded 0 0 ∷ loaded 1 0 ∷ resolved (rational 0) 0 1 ∷ [])
unfolding definitions
strict-if-the-lower-is = refl

-- "scaling by a negative coefficient without turning the relation": of x ≤ 5 and -x ≤ -4 the pair taken the wrong way round would state
-- -2x ≤ -9, which x = 4 refutes; a proof that says so fails there
pub first-parent-is-the-upper : proof_check
    (problem_of 0 1 (alone (at_most (pos 1 ∷ []) (pos 5)) ∷ alone (at_most (negsuc 0 ∷ []) (negsuc 3)) ∷ []))
    (encode_proof (step_of (loaded 0 0) (pos 1) (pos 5) ∷ step_of (loaded 1 0) (negsuc 0) (negsuc 3) ∷ step_of (resolved (rational 0) 1 0)
    (negsuc 1) (negsuc 8) ∷ []))
    ≡ Fails 2
unfolding definitions
first-parent-is-the-upper = refl

-- "calling a constant wide before dropping it": 3x ≤ 10^9; -2x ≤ 10^9 give 0 ≤ 5 × 10^9, true; with -10^9 twice, 0 ≤ -5 × 10^9, false
pub true-constant-is-dropped : shown
    (problem_of 0 1 (alone (at_most (pos 3 ∷ []) (pos 1000000000)) ∷ alone (at_most (negsuc 1 ∷ []) (pos 1000000000)) ∷ []))
    ≡ satisfiable 2 1 (loaded 0 0 ∷ loaded 1 0 ∷ []) [] (negsuc 499999999 ∷ []) 1
unfolding definitions
true-constant-is-dropped = refl

pub false-constant-is-struck : shown
    (problem_of 0 1 (alone (at_most (pos 3 ∷ []) (negsuc 999999999)) ∷ alone (at_most (negsuc 1 ∷ []) (negsuc 999999999)) ∷ []))
    ≡ unsatisfiable 3 1 (loaded 0 0 ∷ loaded 1 0 ∷ resolved (rational 0) 0 1 ∷ [])
unfolding definitions
false-constant-is-struck = refl

-- "taking L + 1 where U lies closer", U not strict: 2x ≤ 9; -x < -4. Example 5 has both strict.
pub the-upper-end-is-closer : shown (problem_of 0 1 (alone (at_most (pos 2 ∷ []) (pos 9)) ∷ alone (below (negsuc 0 ∷ []) (negsuc 3)) ∷ []))
    ≡ satisfiable 2 1 (loaded 0 0 ∷ loaded 1 0 ∷ []) [] (pos 9 ∷ []) 2
unfolding definitions
the-upper-end-is-closer = refl

-- "reusing one link in two clauses": x ≤ 1 or -x ≤ -9; -x ≤ -8 or x ≤ 2. With one split variable for both no x would do.
pub each-clause-has-its-split-variables : shown (problem_of 0 1 (clause_of [] (at_most (pos 1 ∷ []) (pos 1) ∷ at_most (negsuc 0 ∷ [])
    (negsuc 8) ∷ []) ∷ clause_of [] (at_most (negsuc 0 ∷ []) (negsuc 7) ∷ at_most (pos 1 ∷ []) (pos 2) ∷ []) ∷ []))
    ≡ satisfiable 6 5 (loaded 0 0 ∷ loaded 0 1 ∷ loaded 1 0 ∷ loaded 1 1 ∷ resolved (rational 0) 0 2 ∷ resolved (rational 0) 3
    1 ∷ []) [] (pos 9 ∷ []) 1
unfolding definitions
each-clause-has-its-split-variables = refl

-- the same within one clause: x ≤ 0 or -x ≤ -5 or x ≤ -10; -x ≤ -6
pub each-constraint-has-its-split-variable : shown (problem_of 0 1 (clause_of [] (at_most (pos 1 ∷ []) (pos 0) ∷ at_most (negsuc 0 ∷ [])
    (negsuc 4) ∷ at_most (pos 1 ∷ []) (negsuc 9) ∷ []) ∷ alone (at_most (negsuc 0 ∷ []) (negsuc 5)) ∷ []))
    ≡ satisfiable 6 4 (loaded 0 0 ∷ loaded 0 1 ∷ loaded 0 2 ∷ loaded 1 0 ∷ resolved (rational 0) 0 3 ∷ resolved (rational 0) 2
    3 ∷ []) [] (pos 6 ∷ []) 1
unfolding definitions
each-constraint-has-its-split-variable = refl

-- "divided by the greatest common divisor of coefficients and bound": 2x ≤ 2 is x ≤ 1, which is loaded once; with -x ≤ -2 no x does
pub equal-once-divided : shown (problem_of 0 1
    (alone (at_most (pos 2 ∷ []) (pos 2)) ∷ alone (at_most (pos 1 ∷ []) (pos 1)) ∷ alone (at_most (negsuc 0 ∷ []) (negsuc 1)) ∷ []))
    ≡ unsatisfiable 3 1 (loaded 0 0 ∷ loaded 2 0 ∷ resolved (rational 0) 0 1 ∷ [])
unfolding definitions
equal-once-divided = refl

-- (i), "satisfaction is meant with the new relations": a model that meets one reading of x = 5 alone is refused; x is 4, 5, 6
pub equal-as-written : map (λ x. model_checked standard (problem_of 0 1 (alone (equals (pos 1 ∷ []) (pos 5)) ∷ []))
    (padded 64 (0 ∷ 1 ∷ to_bytes 4 1 ++ to_bytes 4 x))) (4 ∷ 5 ∷ 6 ∷ [])
    ≡ Fails 0 ∷ Accepted ∷ Fails 0 ∷ []
unfolding definitions
equal-as-written = refl

-- (i), "the second's pieces numbered on": of x = 5; x ≤ 4, where -x ≤ -5 is part 1 and not 0
pub numbered-on : map (λ part. proof_check (problem_of 0 1 (alone (equals (pos 1 ∷ []) (pos 5)) ∷ alone (at_most (pos 1 ∷ []) (pos 4))
    ∷ []))
    (encode_proof (step_of (loaded 0 part) (negsuc 0) (negsuc 4) ∷ step_of (loaded 1 0) (pos 1) (pos 4)
    ∷ record {
      origin = resolved (rational 0) 1 0;
      line = record { positive = no_booleans; negative = no_booleans; constraint = none };
    } ∷ []))) (0 ∷ 1 ∷ [])
    ≡ Fails 0 ∷ Accepted ∷ []
unfolding definitions
numbered-on = refl
