-- Request (iv): which Boolean variables ("marks") are open, and what the check of a model says of their bytes. `starred` has the
-- problems in its table.
use Rattle.std.specs.Prelude.{◌≡◌, refl, List, [], ◌∷◌, ◌++◌, map, ℕ, pos, negsuc, replicate}
use Rattle.rules_types.specs.declared.answers.Refusal.TheVariants as refusal
use Rattle.rules_types.specs.declared.answers.Checked.{Checked}
use Rattle.rules_types.specs.declared.answers.Checked.TheVariants.{Accepted, Fails, Refused}
use Rattle.rules_types.specs.Terms.{standard}
use Rattle.rules.specs.Bytes.{to_bytes, padded}
use Rattle.rules.specs.Steps.{loaded}
use Rattle.rules.specs.Calls.{model_checked}
use Rattle.rules.specs.Print.{ascii, printed}
use Rattle.rules.specs.Write.{at_most, equals, clause_of, alone, problem_of}
use Rattle.rules.specs.Compute.{definitions, Example, satisfiable, unsatisfiable}

-- a or x ≤ 5; b or not b. The clause of b is dropped, yet b stands in it; c stands in none
abbrev beside_tautology : Example
beside_tautology = record {
  input = problem_of 3 1 (clause_of (0 ∷ []) (at_most (pos 1 ∷ []) (pos 5) ∷ []) ∷ clause_of (1 ∷ 129 ∷ []) [] ∷ []);
  shows = satisfiable 1 0 (loaded 0 0 ∷ []) (0 ∷ 0 ∷ 2 ∷ []) (pos 5 ∷ []) 1;
}

-- a or 0 ≤ 1: a true constant drops the clause of a
abbrev beside_constant : Example
beside_constant = record {
  input = problem_of 2 0 (clause_of (0 ∷ []) (at_most [] (pos 1) ∷ []) ∷ []);
  shows = satisfiable 0 0 [] (0 ∷ 2 ∷ []) [] 1;
}

-- b; b or c: the second loads no line
abbrev covered_clause : Example
covered_clause = record {
  input = problem_of 3 0 (clause_of (1 ∷ []) [] ∷ clause_of (1 ∷ 2 ∷ []) [] ∷ []);
  shows = satisfiable 1 0 (loaded 0 0 ∷ []) (2 ∷ 1 ∷ 0 ∷ []) [] 1;
}

-- not b, written twice
abbrev negated_only : Example
negated_only = record {
  input = problem_of 3 0 (clause_of (129 ∷ 129 ∷ []) [] ∷ []);
  shows = satisfiable 1 0 (loaded 0 0 ∷ []) (2 ∷ 0 ∷ 2 ∷ []) [] 1;
}

-- x ≤ 0 or -x ≤ -5, which takes a split variable, number 2: it has no byte
abbrev beside_splits : Example
beside_splits = record {
  input = problem_of 2 1 (clause_of [] (at_most (pos 1 ∷ []) (pos 0) ∷ at_most (negsuc 0 ∷ []) (negsuc 4) ∷ []) ∷ []);
  shows = satisfiable 2 1 (loaded 0 0 ∷ loaded 0 1 ∷ []) (2 ∷ 2 ∷ []) (pos 0 ∷ []) 1;
}

-- a or x = 1: a stands in both readings
abbrev read_twice : Example
read_twice = record {
  input = problem_of 2 1 (clause_of (0 ∷ []) (equals (pos 1 ∷ []) (pos 1) ∷ []) ∷ []);
  shows = satisfiable 2 1 (loaded 0 0 ∷ loaded 0 1 ∷ []) (0 ∷ 2 ∷ []) (pos 1 ∷ []) 1;
}

-- the last of sixteen, in the last clause
abbrev last_of_sixteen : Example
last_of_sixteen = record {
  input = problem_of 16 1 (alone (at_most (pos 1 ∷ []) (pos 0)) ∷ clause_of (15 ∷ []) [] ∷ []);
  shows = satisfiable 2 0 (loaded 0 0 ∷ loaded 1 0 ∷ []) (replicate 15 2 ++ (1 ∷ [])) (pos 0 ∷ []) 1;
}

-- sixteen, and no clause
abbrev all_sixteen : Example
all_sixteen = record { input = problem_of 16 0 []; shows = satisfiable 0 0 [] (replicate 16 2) [] 1 }

-- one empty clause: no model, and no 2
abbrev without_model : Example
without_model = record { input = problem_of 2 0 (clause_of [] [] ∷ []); shows = unsatisfiable 1 0 (loaded 0 0 ∷ []) }

abbrev pub open_variables : List Example
open_variables =
    beside_tautology ∷ beside_constant ∷ covered_clause ∷ negated_only ∷ beside_splits ∷ read_twice ∷ last_of_sixteen ∷ all_sixteen
    ∷ without_model ∷ []

-- "and prints as 2"
pub tautology-printed : printed standard beside_tautology.input ≡ ascii "agrees 1 0\nmarks 3\n0\n0\n2\nfigures 1\n5 1\n"
unfolding definitions
tautology-printed = refl

-- ---- the check of a model
-- its bytes with x = 6, so that a decides
abbrev answered : List ℕ → ℕ → Checked
answered booleans r =
    model_checked standard beside_tautology.input (padded 64 (3 ∷ booleans ++ (r ∷ to_bytes 4 1) ++ to_bytes 4 6))

-- c's byte is 2, and the first clause decides
pub open-accepted : map (λ a. answered (a ∷ 0 ∷ 2 ∷ []) 1) (0 ∷ 1 ∷ []) ≡ Fails 0 ∷ Accepted ∷ []
unfolding definitions
open-accepted = refl

-- "17 names it elsewhere, and a 0 or 1 there"; so is every other byte
pub open-refused : map (λ c. answered (1 ∷ 0 ∷ c ∷ []) 1) (0 ∷ 1 ∷ 3 ∷ 255 ∷ []) ≡ replicate 4 (Refused refusal.BadModel 3)
unfolding definitions
open-refused = refl

pub elsewhere-refused : map (λ b. answered (1 ∷ b ∷ 2 ∷ []) 1) (2 ∷ 3 ∷ 255 ∷ []) ≡ replicate 3 (Refused refusal.BadModel 2)
unfolding definitions
elsewhere-refused = refl

-- the first field at fault: a before c, c before the count of rational variables
pub first-named : answered (2 ∷ 0 ∷ 0 ∷ []) 7 ∷ answered (0 ∷ 0 ∷ 0 ∷ []) 7 ∷ answered (0 ∷ 0 ∷ 2 ∷ []) 7 ∷ []
    ≡ map (Refused refusal.BadModel) (1 ∷ 3 ∷ 4 ∷ [])
unfolding definitions
first-named = refl
